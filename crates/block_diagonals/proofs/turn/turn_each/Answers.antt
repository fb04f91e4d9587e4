-- `turn_each` meets its contract: the next byte, and none. Assumes nothing.
use Rattle.std.proofs.Common.{suc, sym, ap, ap₂, ◌∙◌, add-one, drop, drop-cons, slice_index_or}
use lib.ListN.{drop_of_length-le}
use Rattle.block_diagonals.specs.Sums.{turn_all}
use Rattle.block_diagonals.proofs.Turning.{turn_all-nil, turn_all-cons}
use Rattle.block_diagonals.proofs.turn.turn_each.Goals as goal

pub loop-b-preserved : goal.loop-b-preserved
loop-b-preserved c =
    let l = c.loop-b in
    let i = l.b-index in
    let part = c.args.part.now in
    let b = slice_index_or part i 0 in
    ap₂ (λ r n. turn_all r (drop n part)) c.turn_in-register.ensures (add-one i)
    ∙ sym (ap (turn_all l.register) (drop-cons part i 0 c.loop-b-test.true) ∙ turn_all-cons l.register b (drop (suc i) part))
    ∙ l.invariant

pub returns : goal.returns
returns c =
    let l = c.loop-b in
    sym (ap (turn_all l.register) (drop_of_length-le c.args.part.now c.loop-b-test.false) ∙ turn_all-nil l.register) ∙ l.invariant
