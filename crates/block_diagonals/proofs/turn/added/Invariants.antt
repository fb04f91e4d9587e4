-- `added` meets its contract. The loop's invariant: what is left to add, laid over the output, gives the whole. Assumes nothing.
use Rattle.std.proofs.Common.{◌≡◌, drop}
use Rattle.std.proofs.lemmas.List.Edits.{sets}
use Rattle.block_diagonals.specs.Sums.{xor_bytes}
use Rattle.block_diagonals.proofs.turn.added.Given as goal

abbrev pub invariant-loop-i : goal.invariant-loop-i
invariant-loop-i l = sets l.added l.i (xor_bytes (drop l.i l.sums) (drop l.i l.piece)) ≡ sets l.initial.added 0 (xor_bytes l.sums l.piece)
