-- Bits without five ones in a row are sent as they stand. Assumes nothing.
use mathlib.Core.Path.{◌≡◌, refl, ap}
use Prim.Native.Nat.{ℕ, suc, ◌+◌, ◌<◌}
use native.Mathlib.Omega.{arith}
use mathlib.Core.Bool.{Bool, true, false, ◌&&◌}
use mathlib.Core.List.{List, [], ◌∷◌}
use lib.Dec.{T, ltb, ltb→lt}
use borrow.Author.Tests.{ne_eqb}
use Rattle.bits.specs.Differences.{set_from}
use Rattle.bits.proofs.Tests.{both_true}
use Rattle.frame.specs.Stuffing.{is_fifth, run_on, stuff, behind_five}

-- no five ones in a row, where `run` stand before the bits
abbrev pub few_ones : ℕ → List Bool → Bool
few_ones run [] = true
few_ones run (true ∷ s) = ltb run 4 && few_ones (run + 1) s
few_ones run (false ∷ s) = few_ones 0 s

pub stuff_few : (run : ℕ) (s : List Bool) → T (few_ones run s) → stuff run s ≡ s
unfolding stuff is_fifth run_on
stuff_few run [] t = refl
stuff_few run (true ∷ s) t =
    let a = both_true (ltb run 4) (few_ones (run + 1) s) t in
    let l = ltb→lt run 4 a.0 in
    rw (ne_eqb run 4 (λ e. omega arith)) (ap (λ z. true ∷ z) (stuff_few (run + 1) s a.1))
stuff_few run (false ∷ s) t = ap (λ z. false ∷ z) (stuff_few 0 s t)

pub behind_few : (place run : ℕ) (s : List Bool) → run < 5 → T (few_ones run s) → set_from place (behind_five run s) ≡ []
unfolding behind_five
behind_few place run [] h t = refl
behind_few place run (true ∷ s) h t =
    let a = both_true (ltb run 4) (few_ones (run + 1) s) t in
    let l = ltb→lt run 4 a.0 in
    rw (ne_eqb run 5 (λ e. omega arith)) (behind_few (suc place) (run + 1) s (omega arith) a.1)
behind_few place run (false ∷ s) h t = rw (ne_eqb run 5 (λ e. omega arith)) (behind_few (suc place) 0 s (omega arith) t)
