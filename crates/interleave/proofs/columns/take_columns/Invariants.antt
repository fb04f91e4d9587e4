-- `take_columns` meets its contract. The loop's invariant: the columns before c are done. Assumes nothing.
use Rattle.std.proofs.Common.{◌≡◌, length}
use Rattle.interleave.specs.Steps.{start, Returned}
use Rattle.interleave.proofs.columns.take_columns.Given as goal

abbrev pub invariant-loop-c : goal.invariant-loop-c
invariant-loop-c l = (l.k ≡ start l.d (length l.line) l.c) × Returned l.d l.line l.initial.out l.out l.k
