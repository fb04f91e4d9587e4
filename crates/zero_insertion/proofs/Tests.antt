-- Tests that antt computes over many cases. Assumes nothing.
use mathlib.Core.Path.{◌≡◌, refl, subst}
use mathlib.Core.Bool.{Bool, true, ◌&&◌}
use mathlib.Core.List.{List, [], ◌∷◌}
use Prim.Native.Nat.{ℕ, zero, suc, ◌<◌}
use lib.Dec.{T}
use Rattle.bits.proofs.Tests.{both_true, every, every_at}

-- ---- several tests at once

unfoldable pub all : List Bool → Bool
all [] = true
all (b ∷ bs) = b && all bs

abbrev pub All : List Bool → Type 0
All [] = Unit
All (b ∷ bs) = T b × All bs

pub all_each : (bs : List Bool) → T (all bs) → All bs
unfolding all
all_each [] t = tt
all_each (b ∷ bs) t = let p = both_true b (all bs) t in (p.0, all_each bs p.1)

-- ---- a function of a number that is computed first: what follows from equal numbers is computed once

unfoldable pub of : {A : Type 0} → ℕ → (ℕ → A) → A
of zero f = f zero
of (suc n) f = f (suc n)

pub of_is : {A : Type 0} (n : ℕ) (f : ℕ → A) → of n f ≡ f n
unfolding of
of_is zero f = refl
of_is (suc n) f = refl

pub every_of : (n : ℕ) (g : ℕ → ℕ) (f : ℕ → ℕ → Bool) → T (every n (λ k. of (g k) (f k))) → (k : ℕ) → k < n → T (f k (g k))
every_of n g f t k h = subst T (of_is (g k) (f k)) (every_at n (λ k. of (g k) (f k)) t k h)
