-- Tests that antt computes: at all numbers below a bound, and what a passed test says. Assumes nothing.
use mathlib.Core.Path.{◌≡◌, refl, sym, subst}
use Prim.Native.Nat.{ℕ, zero, suc, ◌<◌}
use native.Mathlib.Omega.{arith}
use mathlib.Core.Bool.{Bool, true, false, ◌&&◌, cond}
use borrow.Author.Tests.{eqb-true, eqb-false}
use lib.Dec.{T, eqb}

pub both_true : (a b : Bool) → T (a && b) → T a × T b
both_true true b t = (tt, t)
both_true false b t = absurd t

unfoldable pub every : ℕ → (ℕ → Bool) → Bool
every zero f = true
every (suc n) f = f n && every n f

pub every_at : (n : ℕ) (f : ℕ → Bool) → T (every n f) → (k : ℕ) → k < n → T (f k)
unfolding every
every_at zero f t k h = absurd (omega arith)
every_at (suc n) f t k h = go (eqb k n) refl (every_at n f (both_true (f n) (every n f) t).1 k)
  where
    go : (b : Bool) → eqb k n ≡ b → (k < n → T (f k)) → T (f k)
    go true e below = subst (λ (m : ℕ). T (f m)) (sym (eqb-true k n e)) (both_true (f n) (every n f) t).0
    go false e below = let ne = eqb-false k n e in below (omega arith)

pub T_true : (b : Bool) → T b → b ≡ true
T_true true t = refl
T_true false t = absurd t

-- ---- questions

-- a question that was passed: where the answer is none of its refusal, it holds, and the answer is the next one's
pub ask-passed : {A : Type 0} (holds : Bool) {next refusal answer : A} → (refusal ≡ answer → ⊥) → cond holds next refusal ≡ answer
    → (holds ≡ true) × (next ≡ answer)
ask-passed true apart e = (refl, e)
ask-passed false apart e = absurd (apart e)
