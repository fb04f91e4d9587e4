-- `Cyclic6::new` meets its contract: the constants are those of the method. Assumes nothing.
use mathlib.Core.Path.{refl}
use Rattle.bits.specs.Bytes.{low_bits}
use Rattle.division.specs.Generators.{ieee32}
use Rattle.cyclic.specs.Check.{method6}
use Rattle.cyclic.proofs.Methods.{all_ones, receivers, same_residue}
use Rattle.cyclic6.proofs.Cyclic6Cyclic.new.Goals as goal

pub returns : goal.returns
unfolding low_bits ieee32 method6
returns c =
    record { constants = record { register_start = refl; width_is = refl; polynomial_is = refl; start_is = all_ones 32; limit_is = refl }; residue = same_residue method6 32 refl receivers.method_6 }
