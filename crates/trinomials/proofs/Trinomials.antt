-- No two of the powers x^0 to x^91638 modulo the 32-bit generator are equal or differ by 1 alone: computed. Assumes nothing.
use mathlib.Core.Path.{◌≡◌, refl}
use Prim.Native.Nat.{ℕ, ◌^◌}
use mathlib.Core.Bool.{xor}
use mathlib.Core.List.{List, [], ◌∷◌}
use lib.Dec.{T}
use Rattle.bits.specs.Bytes.{low_bits}
use Rattle.division.specs.Generators.{ieee32}
use Rattle.division.specs.Laws.{NoTrinomial}
use Rattle.division.proofs.Generators.{ieee32_generator}
use Rattle.division.proofs.Distinct.{distinct, half, Once, distinct_once, halves_once}
use Rattle.division.proofs.Numbers.{bits_at, run, no_trinomial}

-- the generator's places in a string of 32 bits, whose first is x^31
abbrev places : List ℕ
places = 5 ∷ 8 ∷ 9 ∷ 15 ∷ 19 ∷ 20 ∷ 21 ∷ 23 ∷ 24 ∷ 26 ∷ 27 ∷ 29 ∷ 30 ∷ 31 ∷ []

places_ieee32 : bits_at 32 places ≡ ieee32
unfolding low_bits ieee32 xor
places_ieee32 = refl

-- x^0 to x^91638, each without its constant term
unfoldable powers : List ℕ
powers = run 31 places 91639 (2 ^ 31) []

-- in two declarations, by their highest coefficient, since the steps of one are limited
powers_even : T (distinct 30 (half 0 powers []))
unfolding powers
powers_even = tt

powers_odd : T (distinct 30 (half 1 powers []))
unfolding powers
powers_odd = tt

powers_once : Once powers
powers_once = halves_once powers (distinct_once 30 (half 0 powers []) powers_even) (distinct_once 30 (half 1 powers []) powers_odd)

pub no_trinomial_ieee32 : NoTrinomial ieee32 91638
unfolding powers
no_trinomial_ieee32 = no_trinomial 31 places ieee32 places_ieee32 ieee32_generator.width 91639 powers_once
