-- `Ccitt16::empty` meets its contract: no bit of zero is set. Assumes nothing.
use Rattle.bits.proofs.Bytes.{low_bits-zero}
use Rattle.division.specs.Generators.{ccitt16}
use Rattle.ccitt16.proofs.Ccitt16Generator.empty.Goals as goal

pub returns : goal.returns
unfolding ccitt16
returns c = low_bits-zero 16
