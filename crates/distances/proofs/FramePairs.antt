-- Frames that differ in just two, three and four bits, by multiples of the generator with so many terms. Computed. Assumes nothing.
use mathlib.Core.Path.{refl}
use native.Mathlib.Omega.{arith}
use mathlib.Core.Bool.{Bool, true, xor}
use mathlib.Core.List.{List, [], ◌∷◌, ◌++◌}
use Rattle.bits.specs.Strings.{xor_bits, zeros}
use Rattle.division.specs.Division.{divide, remainder, power}
use Rattle.division.specs.Generators.{digits, ccitt16, ieee32}
use Rattle.cyclic.specs.Check.{method5, method6}
use Rattle.cyclic.proofs.Methods.{width_5, width_6}
use Rattle.guarantees.specs.Frames.{frames}
use Rattle.distances.specs.Met.{MetAt}
use Rattle.distances.proofs.ZeroFrames.{check_of, Pair, pair_met}

-- ---- x^32767 + 1: the first bit and the last of 32,768

unfoldable remainder_two : List Bool
remainder_two = digits (0 ∷ 0 ∷ 0 ∷ 1 ∷ 1 ∷ 0 ∷ 0 ∷ 1 ∷ 1 ∷ 0 ∷ 1 ∷ 1 ∷ 1 ∷ 1 ∷ 1 ∷ 1 ∷ [])

unfoldable second_two : List Bool
second_two = true ∷ (zeros 32751 ++ xor_bits (check_of method5 16 width_5 remainder_two) (zeros 15 ++ true ∷ []))

pair_two : Pair method5 16 width_5 15 32752 remainder_two second_two (32767 ∷ 0 ∷ [])
unfolding remainder_two second_two method5 ccitt16 divide remainder power xor
pair_two =
    record {
      check = tt;
      content = omega arith;
      within = omega arith;
      few_first = tt;
      few_second = tt;
      size = refl;
      powers = refl;
      no_remainder = tt;
    }

pub two_bits : MetAt 2 32768 (frames method5)
two_bits = pair_met method5 16 width_5 15 32752 remainder_two second_two 32767 (0 ∷ []) pair_two

-- ---- x^91639 + x^41678 + 1: the bits 0, 49,961 and 91,639 of 91,640

unfoldable remainder_three : List Bool
remainder_three = digits (0 ∷ 0 ∷ 1 ∷ 1 ∷ 1 ∷ 0 ∷ 1 ∷ 1 ∷ 1 ∷ 1 ∷ 1 ∷ 1 ∷ 1 ∷ 1 ∷ 1 ∷ 0 ∷ 0 ∷ 1 ∷ 0 ∷ 0 ∷ 0 ∷ 1 ∷ 1 ∷ 1 ∷ 0 ∷ 1 ∷ 1 ∷ 1 ∷ 1 ∷ 0 ∷ 0 ∷ 1 ∷ [])

unfoldable second_three : List Bool
second_three = true ∷ (zeros 49960 ++ (true ∷ (zeros 41646 ++ xor_bits (check_of method6 32 width_6 remainder_three) (zeros 31 ++ true ∷ []))))

pair_three : Pair method6 32 width_6 17 91608 remainder_three second_three (91639 ∷ 41678 ∷ 0 ∷ [])
unfolding remainder_three second_three method6 ieee32 divide remainder power xor
pair_three =
    record {
      check = tt;
      content = omega arith;
      within = omega arith;
      few_first = tt;
      few_second = tt;
      size = refl;
      powers = refl;
      no_remainder = tt;
    }

pub three_bits : MetAt 3 91640 (frames method6)
three_bits = pair_met method6 32 width_6 17 91608 remainder_three second_three 91639 (41678 ∷ 0 ∷ []) pair_three

-- ---- x^3006 + x^2866 + x^2215 + 1: the bits 1, 141, 792 and 3,007 of 3,008

unfoldable remainder_four : List Bool
remainder_four = digits (1 ∷ 1 ∷ 0 ∷ 1 ∷ 1 ∷ 1 ∷ 1 ∷ 0 ∷ 0 ∷ 1 ∷ 1 ∷ 1 ∷ 1 ∷ 0 ∷ 0 ∷ 0 ∷ 0 ∷ 1 ∷ 0 ∷ 0 ∷ 1 ∷ 1 ∷ 1 ∷ 0 ∷ 0 ∷ 0 ∷ 1 ∷ 1 ∷ 1 ∷ 0 ∷ 0 ∷ 1 ∷ [])

unfoldable second_four : List Bool
second_four = zeros 1 ++ (true ∷ (zeros 139 ++ (true ∷ (zeros 650 ++ (true ∷ (zeros 2183 ++ xor_bits (check_of method6 32 width_6 remainder_four) (zeros 31 ++ true ∷ [])))))))

pair_four : Pair method6 32 width_6 12 2976 remainder_four second_four (3006 ∷ 2866 ∷ 2215 ∷ 0 ∷ [])
unfolding remainder_four second_four method6 ieee32 divide remainder power xor
pair_four =
    record {
      check = tt;
      content = omega arith;
      within = omega arith;
      few_first = tt;
      few_second = tt;
      size = refl;
      powers = refl;
      no_remainder = tt;
    }

pub four_bits : MetAt 4 3008 (frames method6)
four_bits = pair_met method6 32 width_6 12 2976 remainder_four second_four 3006 (2866 ∷ 2215 ∷ 0 ∷ []) pair_four
