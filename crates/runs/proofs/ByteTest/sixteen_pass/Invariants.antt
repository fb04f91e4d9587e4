-- `sixteen_pass` meets its contract. The loop's invariant: where all passed, every byte passed over does. Assumes nothing.
use Rattle.std.proofs.Common.{◌≡◌, true}
use Rattle.block.specs.Scan.{AllPass}
use Rattle.runs.proofs.ByteTest.sixteen_pass.Given as goal

abbrev pub invariant-loop-b : goal.invariant-loop-b
invariant-loop-b g l = l.all ≡ true → AllPass (g.Self.ByteTest.passing l.self) l.sixteen 0 l.b-index
