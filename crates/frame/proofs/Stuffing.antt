-- Laws of zero insertion: it goes bit by bit, so the bits of two parts go in one after the other. Assumes nothing.
use mathlib.Core.Path.{◌≡◌, refl, sym, ap, ◌∙◌}
use Prim.Native.Nat.{ℕ, ◌+◌, ◌≤◌}
use native.Mathlib.Omega.{arith}
use mathlib.Core.Bool.{Bool, true, false, cond}
use mathlib.Core.List.{List, [], ◌∷◌, ◌++◌, append_assoc}
use lib.Dec.{eqb}
use borrow.Author.Tests.{eqb-false}
use Rattle.frame.specs.Stuffing.{is_fifth, run_on, zero_if, stuff, run_after}

-- ---- the run stays below five

pub run_on_le : (run : ℕ) (b : Bool) → run ≤ 4 → run_on run b ≤ 4
unfolding run_on
run_on_le run true h = go (eqb run 4) refl
  where
    go : (t : Bool) → eqb run 4 ≡ t → cond t 0 (run + 1) ≤ 4
    go true e = omega arith
    go false e = let ne = eqb-false run 4 e in omega arith
run_on_le run false h = omega arith

-- ---- two parts

pub run_after-append : (run : ℕ) (s t : List Bool) → run_after run (s ++ t) ≡ run_after (run_after run s) t
unfolding run_after
run_after-append run [] t = refl
run_after-append run (b ∷ s) t = run_after-append (run_on run b) s t

pub stuff-append : (run : ℕ) (s t : List Bool) → stuff run (s ++ t) ≡ stuff run s ++ stuff (run_after run s) t
unfolding stuff run_after
stuff-append run [] t = refl
stuff-append run (b ∷ s) t =
    let x = b ∷ zero_if (is_fifth run b) in
    ap (λ z. x ++ z) (stuff-append (run_on run b) s t)
    ∙ sym (append_assoc x (stuff (run_on run b) s) (stuff (run_after (run_on run b) s) t))
