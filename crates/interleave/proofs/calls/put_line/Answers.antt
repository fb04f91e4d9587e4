-- `put_line` meets its contract: at most one row stays as it is, and of more every column goes to its place. Assumes nothing.
use Rattle.std.proofs.Common.{◌++◌, length, drop, ap, ◌∙◌, sym}
use Rattle.interleave.proofs.Walk.{sent_all}
use Rattle.interleave.proofs.Properties.{interleaving}
use Rattle.interleave.proofs.calls.put_line.Goals as goal

pub returns-then-text-d : goal.returns-then-text-d
returns-then-text-d c =
    let a = c.args in
    ap (λ x. x ++ drop (length a.text.now) a.out.now)
    (c.copy_from_slice.ensures.after ∙ sym (interleaving.unchanged.one_row a.d a.text.now c.requires.d_least c.if-text-d.true))

pub returns-else-text-d : goal.returns-else-text-d
returns-else-text-d c =
    let a = c.args in
    sent_all a.d a.text.now a.out.now c.put_columns.new.out c.requires.d_least c.requires.room c.put_columns.ensures
