-- `turn_each` meets its contract. The loop's invariant: what is left of the slice gives the whole. Assumes nothing.
use Rattle.std.proofs.Common.{◌≡◌, drop}
use Rattle.block_diagonals.specs.Sums.{turn_all}
use Rattle.block_diagonals.proofs.turn.turn_each.Given as goal

abbrev pub invariant-loop-b : goal.invariant-loop-b
invariant-loop-b l = turn_all l.register (drop l.b-index l.part) ≡ turn_all l.start l.part
