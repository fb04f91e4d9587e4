-- `Ieee32::empty` meets its contract: no bit of zero is set. Assumes nothing.
use Rattle.bits.proofs.Bytes.{low_bits-zero}
use Rattle.division.specs.Generators.{ieee32}
use Rattle.ieee32.proofs.Ieee32Generator.empty.Goals as goal

pub returns : goal.returns
unfolding ieee32
returns c = low_bits-zero 32
