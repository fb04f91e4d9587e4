-- `Fixed8::new` meets its contract: the constants are those of the polynomial. Assumes nothing.
use mathlib.Core.Path.{refl}
use Rattle.bits.specs.Bytes.{low_bits}
use Rattle.bits.proofs.Bytes.{low_bits-zero}
use Rattle.fixed_polynomials.specs.Polynomials.{fixed8, degree8}
use Rattle.fixed_check.proofs.degree8.Fixed8Cyclic.new.Goals as goal

pub returns : goal.returns
unfolding low_bits fixed8 degree8
returns c =
    record { register_start = refl; width_is = refl; polynomial_is = refl; start_is = low_bits-zero 8; limit_is = refl }
