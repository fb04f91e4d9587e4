-- `Cyclic5::new` meets its contract: the constants are those of the method. Assumes nothing.
use mathlib.Core.Path.{refl}
use Rattle.bits.specs.Bytes.{low_bits}
use Rattle.division.specs.Generators.{ccitt16}
use Rattle.cyclic.specs.Check.{method5}
use Rattle.cyclic.proofs.Methods.{all_ones, receivers, same_residue}
use Rattle.cyclic5.proofs.Cyclic5Cyclic.new.Goals as goal

pub returns : goal.returns
unfolding low_bits ccitt16 method5
returns c =
    record { constants = record { register_start = refl; width_is = refl; polynomial_is = refl; start_is = all_ones 16; limit_is = refl }; residue = same_residue method5 16 refl receivers.method_5 }
