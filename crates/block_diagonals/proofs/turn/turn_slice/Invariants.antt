-- `turn_slice` meets its contract. The loop's invariant: the sums and what is left of the slice give the whole. Assumes nothing.
use Rattle.std.proofs.Common.{◌≡◌, length}
use Rattle.block_diagonals.specs.Sums.{turn_all}
use Rattle.block_diagonals.proofs.turn.turn_slice.Given as goal

abbrev pub invariant-loop-piece : goal.invariant-loop-piece
invariant-loop-piece l =
    record {
      size : length l.sums ≡ 56;
      left : turn_all (turn_all l.start l.sums) l.rest ≡ turn_all l.start l.part;
    }

abbrev pub decreases-loop-piece : goal.decreases-loop-piece
decreases-loop-piece l = length l.rest
