-- `Ibm16::empty` meets its contract: no bit of zero is set. Assumes nothing.
use Rattle.bits.proofs.Bytes.{low_bits-zero}
use Rattle.division.specs.Generators.{ibm16}
use Rattle.ibm16.proofs.Ibm16Generator.empty.Goals as goal

pub returns : goal.returns
unfolding ibm16
returns c = low_bits-zero 16
