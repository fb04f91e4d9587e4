-- `Fixed24::new` meets its contract: the constants are those of the polynomial. Assumes nothing.
use mathlib.Core.Path.{refl}
use Rattle.bits.specs.Bytes.{low_bits}
use Rattle.bits.proofs.Bytes.{low_bits-zero}
use Rattle.fixed_polynomials.specs.Polynomials.{fixed24, degree24}
use Rattle.fixed_check.proofs.degree24.Fixed24Cyclic.new.Goals as goal

pub returns : goal.returns
unfolding low_bits fixed24 degree24
returns c =
    record { register_start = refl; width_is = refl; polynomial_is = refl; start_is = low_bits-zero 24; limit_is = refl }
