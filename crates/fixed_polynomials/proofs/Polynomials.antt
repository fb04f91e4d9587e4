-- The polynomials: widths, terms and the orders of x. All computed. Assumes nothing.
use mathlib.Core.Path.{refl}
use native.Mathlib.Omega.{arith}
use mathlib.Core.List.{[], ◌∷◌}
use mathlib.Core.Bool.{xor}
use lib.Dec.{T}
use Rattle.division.specs.Division.{divide, remainder, power}
use Rattle.division.proofs.Order.{certified, order}
use Rattle.fixed_polynomials.specs.Polynomials.{fixed8, fixed16, fixed24, degree8, degree16, degree24}
use Rattle.fixed_polynomials.specs.Laws.{Widths, Evens, Orders}

pub widths : Widths
unfolding degree8 degree16 degree24 fixed8 fixed16 fixed24
widths =
    record {
      degree_8 = record { generator = record { width = refl; constant = refl }; start-length = refl };
      degree_16 = record { generator = record { width = refl; constant = refl }; start-length = refl };
      degree_24 = record { generator = record { width = refl; constant = refl }; start-length = refl };
    }

pub evens : Evens
unfolding fixed8 fixed16 fixed24 xor
evens = record { degree_8 = refl; degree_16 = refl; degree_24 = refl }

-- 127 is prime, 254 = 2 · 127, 4,094 = 2 · 23 · 89
certificate8 : T (certified fixed8 7 127 (127 ∷ []))
unfolding fixed8 divide remainder power xor
certificate8 = tt

certificate16 : T (certified fixed16 8 254 (2 ∷ 127 ∷ []))
unfolding fixed16 divide remainder power xor
certificate16 = tt

certificate24 : T (certified fixed24 12 4094 (2 ∷ 23 ∷ 89 ∷ []))
unfolding fixed24 divide remainder power xor
certificate24 = tt

pub orders : Orders
orders =
    let a = order fixed8 7 127 (127 ∷ []) certificate8 in
    let b = order fixed16 8 254 (2 ∷ 127 ∷ []) certificate16 in
    let c = order fixed24 12 4094 (2 ∷ 23 ∷ 89 ∷ []) certificate24 in
    record {
      degree_8 = λ d h k. (λ e. omega (arith, a.1 d e), λ e. rw e a.0);
      degree_16 = λ d h k. (λ e. omega (arith, b.1 d e), λ e. rw e b.0);
      degree_24 = λ d h k. (λ e. omega (arith, c.1 d e), λ e. rw e c.0);
    }
