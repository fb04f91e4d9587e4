-- Laws of `first_failing`: its bounds, and what holds of every byte before it. Assumes nothing.
use mathlib.Core.Path.{◌≡◌, refl, ap, ◌∙◌}
use Prim.Native.Nat.{ℕ, zero, suc, ◌+◌, ◌≤◌, ◌<◌}
use native.Mathlib.Omega.{arith}
use mathlib.Core.Bool.{Bool, true, false, cond}
use mathlib.Core.List.{List, [], ◌∷◌}
use lib.ListN.{length, get_or}
use Rattle.block.specs.Scan.{first_failing}

-- two tests with the same answers
pub scan_same : {f g : ℕ → Bool} → ((b : ℕ) → f b ≡ g b) → (at : ℕ) (l : List ℕ) → first_failing f at l ≡ first_failing g at l
unfolding first_failing
scan_same same at [] = refl
scan_same {f} {g} same at (b ∷ l) =
    ap (λ t. cond t (first_failing f (at + 1) l) at) (same b) ∙ ap (λ n. cond (g b) n at) (scan_same same (at + 1) l)

-- ---- bounds

-- a place, counted from `at`, within l, before which every byte passes
pub record Reached (test : ℕ → Bool) (at : ℕ) (l : List ℕ) (end : ℕ) : Type 0 where
  pub on : at ≤ end
  pub within : end ≤ at + length l
  pub all : (k : ℕ) → at + k < end → test (get_or l k 0) ≡ true

module _ (test : ℕ → Bool) where
  pub reached : (at : ℕ) (l : List ℕ) → Reached test at l (first_failing test at l)
  unfolding first_failing
  reached at [] = record { on = omega arith; within = omega arith; all = λ k h. absurd (omega arith) }
  reached at (b ∷ l) = go (test b) refl (reached (at + 1) l)
    where
      go : (t : Bool) → test b ≡ t → Reached test (at + 1) l (first_failing test (at + 1) l)
          → Reached test at (b ∷ l) (cond t (first_failing test (at + 1) l) at)
      go true e r = record { on = omega (arith, r.on); within = omega (arith, r.within); all = first }
        where
          first : (k : ℕ) → at + k < first_failing test (at + 1) l → test (get_or (b ∷ l) k 0) ≡ true
          first zero h = e
          first (suc k) h = r.all k (omega arith)
      go false e r = record { on = omega arith; within = omega arith; all = λ k h. absurd (omega arith) }
