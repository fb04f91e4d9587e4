-- Degree 16: no two pairs of the powers x^0 to x^127 have one sum, all 8,128 of them computed. Assumes nothing.
use mathlib.Core.Path.{◌≡◌, refl}
use Prim.Native.Nat.{ℕ, ◌^◌}
use mathlib.Core.Bool.{xor}
use mathlib.Core.List.{List, [], ◌∷◌}
use lib.Dec.{T}
use lib.ListN.{length}
use Rattle.bits.specs.Bytes.{low_bits}
use Rattle.division.specs.Laws.{NoMultiple}
use Rattle.division.proofs.Distinct.{distinct, distinct_once}
use Rattle.division.proofs.Numbers.{bits_at}
use Rattle.division.proofs.Pairs.{pair_sums, registers, sum_of, no_multiple_of_four}
use Rattle.fixed_polynomials.specs.Polynomials.{fixed16}

-- the polynomial's places in a string of 16 bits, whose first is x^15
abbrev places : List ℕ
places = 0 ∷ 2 ∷ 4 ∷ 10 ∷ 12 ∷ 14 ∷ 15 ∷ []

places_16 : bits_at 16 places ≡ fixed16
unfolding low_bits fixed16 xor
places_16 = refl

width : length fixed16 ≡ 16
unfolding fixed16
width = refl

unfoldable sums : List ℕ
sums = pair_sums (sum_of 15) (registers 15 places (2 ^ 15) 128) []

sums_distinct : T (distinct 16 sums)
unfolding sums
sums_distinct = tt

pub no_multiple_16 : NoMultiple 4 128 fixed16
unfolding sums
no_multiple_16 = no_multiple_of_four 15 places fixed16 places_16 width 128 (distinct_once 16 sums sums_distinct)
