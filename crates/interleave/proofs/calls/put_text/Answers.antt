-- `put_text` meets its contract: at most one row stays as it is, and of more every column goes to its place. Assumes nothing.
use Rattle.std.proofs.Common.{◌++◌, length, drop, ap, ◌∙◌, sym}
use Rattle.interleave.proofs.Walk.{returned_all}
use Rattle.interleave.proofs.Properties.{interleaving}
use Rattle.interleave.proofs.calls.put_text.Goals as goal

pub returns-then-line-d : goal.returns-then-line-d
returns-then-line-d c =
    let a = c.args in
    ap (λ x. x ++ drop (length a.line.now) a.out.now)
    (c.copy_from_slice.ensures.after ∙ sym (interleaving.unchanged_back.one_row a.d a.line.now c.requires.d_least c.if-line-d.true))

pub returns-else-line-d : goal.returns-else-line-d
returns-else-line-d c =
    let a = c.args in
    returned_all a.d a.line.now a.out.now c.take_columns.new.out c.requires.d_least c.requires.room c.take_columns.ensures
