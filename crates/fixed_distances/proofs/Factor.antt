-- A factor m of the polynomial of degree 24: x^2047 is 1, and x^u + x^v takes no sum but 0 to 0, for u and v fewer than 2,047 apart. No
-- field and no product: a shift by u - v keeps such a sum, so one by 23 or by 89 does, and x^23 + 1 and x^89 + 1 are powers of x.
-- Assumes nothing.
use mathlib.Core.Path.{◌≡◌, refl, sym, ap, ◌∙◌}
use Prim.Native.Nat.{ℕ, zero, suc, ◌-◌, ◌*◌, ◌/◌, ◌%◌, ◌<◌}
use native.Mathlib.Decide.{ℕ_discrete}
use native.Mathlib.Omega.{arith}
use mathlib.Core.Bool.{Bool, xor}
use mathlib.Core.List.{List, [], ◌∷◌}
use lib.Dec.{T}
use lib.ListN.{length}
use Rattle.bits.specs.Strings.{zeros}
use Rattle.division.specs.Division.{divide, remainder, power, PowerIsOne}
use Rattle.division.specs.Generators.{coefficients}
use Rattle.division.specs.Laws.{Generator}
use Rattle.division.proofs.Order.{certified, order, fermat}
use Rattle.division.proofs.Powers.{Kept}
use Rattle.division.proofs.Sums.{sum, sum_is, sum_is_lem}
use Rattle.division.proofs.Totals.{bit, even_of_sum}
use Rattle.division.proofs.KeptSums.{kept_cofactor, kept_sum, kept_zero, kept_apart}
use Rattle.division.proofs.FourPowers.{Cancels}

-- x^11 + x^9 + x^7 + x^5 + x^3 + x + 1
unfoldable pub factor : List Bool
factor = coefficients 11 (9 ∷ 7 ∷ 5 ∷ 3 ∷ 1 ∷ 0 ∷ [])

factor_generator : Generator 11 factor
unfolding factor
factor_generator = record { width = refl; constant = refl }

certificate : T (certified factor 11 2047 (23 ∷ 89 ∷ []))
unfolding factor divide remainder power xor
certificate = tt

one_2047 : PowerIsOne factor 2047
one_2047 = (order factor 11 2047 (23 ∷ 89 ∷ []) certificate).0

-- x^23 + 1 = x^840, x^89 + 1 = x^1911
certificate_23 : T (sum_is factor 11 (23 ∷ 0 ∷ 840 ∷ []) (zeros 11))
unfolding factor divide remainder power xor
certificate_23 = tt

certificate_89 : T (sum_is factor 11 (89 ∷ 0 ∷ 1911 ∷ []) (zeros 11))
unfolding factor divide remainder power xor
certificate_89 = tt

prime_23 : T (fermat 23)
prime_23 = tt

prime_89 : T (fermat 89)
prime_89 = tt

width : zeros 11 ≡ zeros (length factor)
width = ap zeros (sym factor_generator.width)

zero_23 : (ds : List ℕ) → Kept factor (sum factor ds) 23 → sum factor ds ≡ zeros (length factor)
zero_23 = kept_zero factor factor_generator.constant 23 840 (sum_is_lem factor 11 (23 ∷ 0 ∷ 840 ∷ []) (zeros 11) certificate_23 ∙ width)

zero_89 : (ds : List ℕ) → Kept factor (sum factor ds) 89 → sum factor ds ≡ zeros (length factor)
zero_89 = kept_zero factor factor_generator.constant 89 1911 (sum_is_lem factor 11 (89 ∷ 0 ∷ 1911 ∷ []) (zeros 11) certificate_89 ∙ width)

not-both : (n : ℕ) → 0 < n → n < 2047 → n % 23 ≡ 0 → n % 89 ≡ 0 → ⊥
not-both n h k z y = multiple (15 * (n / 23) - 58 * (n / 89)) (omega arith)
  where
    multiple : (s : ℕ) → n / 89 ≡ 23 * s → ⊥
    multiple zero e = omega arith
    multiple (suc s) e = omega arith

below_2047 : (ds : List ℕ) (n : ℕ) → 0 < n → n < 2047 → Kept factor (sum factor ds) n → sum factor ds ≡ zeros (length factor)
below_2047 ds n h k f =
    let s = sum factor ds in
    let whole : Kept factor s 2047 = kept_sum factor 2047 one_2047 ds in
    elim (ℕ_discrete (n % 23) 0) [
      | yes z ↦ zero_23 ds (kept_cofactor factor s 89 23 n (omega arith) prime_89 (not-both n h k z) whole f)
      | no z ↦ zero_89 ds (kept_cofactor factor s 23 89 n (omega arith) prime_23 z whole f)
    ]

pub cancels : Cancels factor 2047
cancels ds u v h k f = below_2047 ds (u - v) (omega arith) (omega arith) (kept_apart factor factor_generator.constant ds u v h f)

last_bit : bit 10 (power factor 0) ≡ 1
unfolding factor divide remainder power xor
last_bit = refl

pub one_not_zero : sum factor (0 ∷ []) ≡ zeros (length factor) → ⊥
one_not_zero e = omega (arith, even_of_sum factor (0 ∷ []) e 10, last_bit)
