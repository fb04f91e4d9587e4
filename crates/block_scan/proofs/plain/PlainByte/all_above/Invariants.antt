-- `all_above` meets its contract. The loop's invariant: where all passed, every byte passed over is data. Assumes nothing.
use Rattle.std.proofs.Common.{◌≡◌, true}
use Rattle.block.specs.Signs.{koi7}
use Rattle.block.specs.Scan.{AllPass}
use Rattle.block_scan.specs.Tests.{is_plain_byte}
use Rattle.block_scan.proofs.plain.PlainByte.all_above.Given as goal

abbrev pub invariant-loop-b : goal.invariant-loop-b
invariant-loop-b l = l.all ≡ true → AllPass (is_plain_byte koi7 l.self.seven l.self.low) l.sixteen 0 l.b-index
