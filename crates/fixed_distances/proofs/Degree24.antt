-- Degree 24: the polynomial is (x + 1)^2 m m', and m divides m' at x^3. So four of its powers whose sum is 0 modulo the polynomial have it
-- modulo m, and so have their squares and their cubes. Assumes nothing.
use mathlib.Core.Path.{refl}
use Prim.Native.Nat.{ℕ, zero, suc, ◌<◌}
use native.Mathlib.Omega.{arith}
use mathlib.Core.Bool.{true, xor}
use mathlib.Core.List.{◌∷◌}
use Rattle.division.specs.Division.{divide, remainder, Divides}
use Rattle.division.specs.Laws.{NoMultiple}
use Rattle.division.proofs.Substitution.{spread_by, LeadIsRest, lead_is_rest}
use Rattle.division.proofs.FourPowers.{no_multiple_of_four}
use Rattle.fixed_polynomials.specs.Polynomials.{fixed24}
use Rattle.fixed_distances.proofs.Factor.{factor, cancels, one_not_zero}

-- the factor divides the polynomial, and the polynomial at x^2 and at x^3
root_1 : Divides factor (spread_by 0 (true ∷ fixed24))
unfolding factor fixed24 divide remainder xor
root_1 = refl

root_2 : Divides factor (spread_by 1 (true ∷ fixed24))
unfolding factor fixed24 divide remainder xor
root_2 = refl

root_3 : Divides factor (spread_by 2 (true ∷ fixed24))
unfolding factor fixed24 divide remainder xor
root_3 = refl

leads : (k : ℕ) → k < 3 → LeadIsRest k fixed24 factor
leads zero h = lead_is_rest 0 fixed24 factor root_1
leads (suc zero) h = lead_is_rest 1 fixed24 factor root_2
leads (suc (suc zero)) h = lead_is_rest 2 fixed24 factor root_3
leads (suc (suc (suc k))) h = absurd (omega arith)

pub no_multiple_24 : NoMultiple 4 2048 fixed24
no_multiple_24 = no_multiple_of_four fixed24 factor leads one_not_zero 2047 cancels
