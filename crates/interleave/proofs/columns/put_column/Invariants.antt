-- `put_column` meets its contract. The loop's invariant: the rows before r are done. Assumes nothing.
use Rattle.std.proofs.Common.{ℕ, ◌+◌, List}
use Rattle.interleave.specs.Steps.{Sent}
use Rattle.interleave.proofs.columns.put_column.Given as goal

abbrev pub invariant-loop-r : goal.invariant-loop-r
invariant-loop-r l = (before : List ℕ) → Sent l.d l.text before l.initial.out l.k → Sent l.d l.text before l.out (l.k + l.r)
