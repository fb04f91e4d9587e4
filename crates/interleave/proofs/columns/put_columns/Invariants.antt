-- `put_columns` meets its contract. The loop's invariant: the columns before c are done. Assumes nothing.
use Rattle.std.proofs.Common.{◌≡◌, length}
use Rattle.interleave.specs.Steps.{start, Sent}
use Rattle.interleave.proofs.columns.put_columns.Given as goal

abbrev pub invariant-loop-c : goal.invariant-loop-c
invariant-loop-c l = (l.k ≡ start l.d (length l.text) l.c) × Sent l.d l.text l.initial.out l.out l.k
