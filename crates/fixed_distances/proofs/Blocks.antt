-- The least distance of strings is that of accepted blocks; blocks that meet it, computed. Assumes nothing.
use mathlib.Core.Path.{refl, ap}
use Prim.Native.Nat.{ℕ, ◌*◌}
use native.Mathlib.Omega.{arith}
use mathlib.Core.Bool.{xor}
use mathlib.Core.List.{[], ◌∷◌}
use lib.ListN.{length}
use Rattle.bits.specs.Bytes.{low_bits, bits_of}
use Rattle.bits.proofs.Bytes.{length-bits_of, bits_of_injective}
use Rattle.bits.proofs.Differences.{length-differing}
use Rattle.division.specs.Division.{divide, remainder}
use Rattle.division.specs.Laws.{AtLeastWithin}
use Rattle.cyclic.specs.Check.{Parameters, formula, check_bits}
use Rattle.cyclic.specs.Laws.{OfWidth}
use Rattle.fixed_polynomials.specs.Polynomials.{fixed8, fixed16, fixed24, degree8, degree16, degree24}
use Rattle.fixed_block.specs.Block.{check_length}
use Rattle.fixed_block.specs.Examples.{full, ends_changed}
use Rattle.fixed_block.proofs.Examples.{examples}
use Rattle.fixed_block.proofs.Distances.{undetected}
use Rattle.fixed_distances.specs.Blocks.{BlocksAtLeast, BlocksDifferIn}

pub blocks_at_least : (width : ℕ) (m : Parameters) → OfWidth (8 * width) m → (k n : ℕ) → AtLeastWithin k n m.generator → BlocksAtLeast k n m
blocks_at_least width m o k n least A B p q l a b short unequal =
    omega (
      arith,
      length-differing (bits_of A) (bits_of B),
      least (bits_of A) (bits_of B) (undetected width m o A B l a b) (omega (arith, length-bits_of A)) (λ e. unequal (bits_of_injective A B p q l e)),
    )

-- a content of zeros has a check of ones; the second block differs by a multiple of the polynomial

pub met_8 : BlocksDifferIn 4 16 degree8
unfolding low_bits bits_of divide remainder formula check_bits fixed8 degree8 check_length xor
met_8 =
    record {
      A = 0x00 ∷ 0xff ∷ [];
      B = 0x80 ∷ 0x1f ∷ [];
      bytes = omega arith;
      one_length = refl;
      accepted = (record { content = omega arith; within = omega arith; check = refl }, record { content = omega arith; within = omega arith; check = refl });
      size = refl;
      bits = refl;
    }

pub longest_met_8 : BlocksDifferIn 2 128 degree8
longest_met_8 =
    record {
      A = full;
      B = ends_changed;
      bytes = omega arith;
      one_length = refl;
      accepted = (examples.full_accepted, examples.changed_accepted);
      size = refl;
      bits = ap length examples.changed_bits;
    }

pub met_16 : BlocksDifferIn 6 32 degree16
unfolding low_bits bits_of divide remainder formula check_bits fixed16 degree16 check_length xor
met_16 =
    record {
      A = 0x00 ∷ 0x00 ∷ 0xff ∷ 0xff ∷ [];
      B = 0x10 ∷ 0x00 ∷ 0xdf ∷ 0x59 ∷ [];
      bytes = omega arith;
      one_length = refl;
      accepted = (record { content = omega arith; within = omega arith; check = refl }, record { content = omega arith; within = omega arith; check = refl });
      size = refl;
      bits = refl;
    }

pub met_24 : BlocksDifferIn 6 56 degree24
unfolding low_bits bits_of divide remainder formula check_bits fixed24 degree24 check_length xor
met_24 =
    record {
      A = 0x00 ∷ 0x00 ∷ 0x00 ∷ 0x00 ∷ 0xff ∷ 0xff ∷ 0xff ∷ [];
      B = 0x45 ∷ 0x10 ∷ 0x00 ∷ 0x00 ∷ 0x7f ∷ 0xff ∷ 0x7f ∷ [];
      bytes = omega arith;
      one_length = refl;
      accepted = (record { content = omega arith; within = omega arith; check = refl }, record { content = omega arith; within = omega arith; check = refl });
      size = refl;
      bits = refl;
    }
