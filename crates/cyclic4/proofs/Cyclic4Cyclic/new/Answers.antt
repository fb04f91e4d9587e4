-- `Cyclic4::new` meets its contract: the constants are those of the method. Assumes nothing.
use mathlib.Core.Path.{refl}
use Rattle.bits.specs.Bytes.{low_bits}
use Rattle.bits.proofs.Bytes.{low_bits-zero}
use Rattle.division.specs.Generators.{ibm16}
use Rattle.cyclic.specs.Check.{method4}
use Rattle.cyclic4.proofs.Cyclic4Cyclic.new.Goals as goal

pub returns : goal.returns
unfolding low_bits ibm16 method4
returns c =
    record { register_start = refl; width_is = refl; polynomial_is = refl; start_is = low_bits-zero 16; limit_is = refl }
