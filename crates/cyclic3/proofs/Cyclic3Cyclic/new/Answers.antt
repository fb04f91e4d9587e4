-- `Cyclic3::new` meets its contract: the constants are those of the method. Assumes nothing.
use mathlib.Core.Path.{refl}
use Rattle.bits.specs.Bytes.{low_bits}
use Rattle.division.specs.Generators.{ccitt16}
use Rattle.cyclic.specs.Check.{method3}
use Rattle.cyclic.proofs.Methods.{all_ones}
use Rattle.cyclic3.proofs.Cyclic3Cyclic.new.Goals as goal

pub returns : goal.returns
unfolding low_bits ccitt16 method3
returns c =
    record { register_start = refl; width_is = refl; polynomial_is = refl; start_is = all_ones 16; limit_is = refl }
