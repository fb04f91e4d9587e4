-- The blocks worked out. All computed. Assumes nothing.
use mathlib.Core.Path.{refl}
use mathlib.Core.Bool.{xor}
use native.Mathlib.Omega.{arith}
use Rattle.bits.specs.Bytes.{low_bits, bits_of, value, pack_into, pack}
use Rattle.division.specs.Division.{divide, remainder}
use Rattle.cyclic.specs.Check.{formula, check_bits}
use Rattle.fixed_polynomials.specs.Polynomials.{fixed8, fixed16, fixed24, degree8, degree16, degree24}
use Rattle.fixed_block.specs.Block.{check_length, block_of, write_fixed}
use Rattle.fixed_block.specs.Examples.{Examples}

pub examples : Examples
unfolding low_bits bits_of value pack_into pack divide remainder formula check_bits fixed8 fixed16 fixed24 degree8 degree16 degree24 check_length block_of write_fixed xor
examples =
    record {
      degree_8 = refl;
      degree_16 = refl;
      degree_24 = refl;
      full_accepted = record { content = omega arith; within = omega arith; check = refl };
      changed_accepted = record { content = omega arith; within = omega arith; check = refl };
      changed_bits = refl;
    }
