-- `take_column` meets its contract. The loop's invariant: the rows before r are done. Assumes nothing.
use Rattle.std.proofs.Common.{ℕ, ◌+◌, List}
use Rattle.interleave.specs.Steps.{Returned}
use Rattle.interleave.proofs.columns.take_column.Given as goal

abbrev pub invariant-loop-r : goal.invariant-loop-r
invariant-loop-r l = (before : List ℕ) → Returned l.d l.line before l.initial.out l.k → Returned l.d l.line before l.out (l.k + l.r)
