-- Seven bits turned up by some rows: the weight stays, and what 1 to 6 rows keep is all equal bits.
-- Assumes nothing.
use mathlib.Core.Path.{◌≡◌, refl, sym, ap, ◌∙◌}
use Prim.Native.Nat.{ℕ, zero, suc, ◌+◌, ◌*◌, ◌/◌, ◌%◌, ◌<◌}
use native.Mathlib.Omega.{arith}
use mathlib.Core.Bool.{Bool, true, false}
use mathlib.Core.List.{List, [], ◌∷◌}
use mathlib.Core.Logic.{◌⊎◌, inl, inr}
use lib.ListN.{replicate}
use Rattle.bits.specs.Strings.{zeros, ones, weight}
use Rattle.bits.proofs.Strings.{weight-append}
use Rattle.block.specs.Diagonals.{turn}
use Rattle.block.proofs.DiagonalRegister.{Seven, seven, seven-turn, turns, turns-add, whole_turns}

weight-turn : {v : List Bool} → Seven v → weight (turn v) ≡ weight v
weight-turn (seven a b c d e f g) =
    let u = a ∷ b ∷ c ∷ d ∷ e ∷ f ∷ [] in
    omega (arith, weight-append u (g ∷ []), weight-append (g ∷ []) u)

pub weight-turns : (n : ℕ) {v : List Bool} → Seven v → weight (turns n v) ≡ weight v
weight-turns zero s = refl
weight-turns (suc n) s = weight-turns n (seven-turn s) ∙ weight-turn s

turns-residue : (n : ℕ) {v : List Bool} → Seven v → turns n v ≡ turns (n % 7) v
turns-residue n {v} s =
    let e : n ≡ 7 * (n / 7) + n % 7 = omega arith in
    ap (λ k. turns k v) e ∙ turns-add (7 * (n / 7)) (n % 7) v ∙ ap (turns (n % 7)) (whole_turns (n / 7) s)

-- seven equal bits are none or all
equal_bits : (b : Bool) {v : List Bool} → v ≡ replicate 7 b → (v ≡ zeros 7) ⊎ (v ≡ ones 7)
equal_bits true e = inr e
equal_bits false e = inl e

-- what a turn of 1 to 6 rows keeps is none or all
pub kept_by_turns : (n : ℕ) {v : List Bool} → Seven v → turns n v ≡ v → (n % 7 ≡ 0 → ⊥) → (v ≡ zeros 7) ⊎ (v ≡ ones 7)
kept_by_turns n {v} s e = go (n % 7) s (sym (turns-residue n s) ∙ e) (omega arith)
  where
    go : (k : ℕ) {v : List Bool} → Seven v → turns k v ≡ v → k < 7 → (k ≡ 0 → ⊥) → (v ≡ zeros 7) ⊎ (v ≡ ones 7)
    go zero s e l n = absurd (n refl)
    go (suc zero) (seven a b c d e f g) q l n = equal_bits a cc
    go (suc (suc zero)) (seven a b c d e f g) q l n = equal_bits a cc
    go (suc (suc (suc zero))) (seven a b c d e f g) q l n = equal_bits a cc
    go (suc (suc (suc (suc zero)))) (seven a b c d e f g) q l n = equal_bits a cc
    go (suc (suc (suc (suc (suc zero))))) (seven a b c d e f g) q l n = equal_bits a cc
    go (suc (suc (suc (suc (suc (suc zero)))))) (seven a b c d e f g) q l n = equal_bits a cc
    go (suc (suc (suc (suc (suc (suc (suc k))))))) s q l n = absurd (omega arith)
