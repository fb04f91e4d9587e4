-- A word taken away at the front of a content, with what is yet to be added to it. Assumes nothing.
use mathlib.Core.Path.{◌≡◌, sym, ap, ◌∙◌}
use Prim.Native.Nat.{ℕ, ◌+◌, ◌≤◌}
use native.Mathlib.Omega.{arith}
use mathlib.Core.Bool.{Bool, true}
use mathlib.Core.List.{List, [], ◌∷◌, ◌++◌}
use lib.ListN.{length, take, drop, length-append, length-drop, length-replicate, take-append-drop}
use lib.Seq.{length-take-le}
use Rattle.bits.specs.Strings.{xor_bits, zeros}
use Rattle.bits.specs.Differences.{Each}
use Rattle.bits.proofs.Strings.{length-xor}
use Rattle.registers.specs.Register.{entered}
use Rattle.folding.specs.Fold.{spread, folded_bits, added}
use Rattle.folding.proofs.Fold.{Powers, length-spread, folds}
use Rattle.folding.proofs.Added.{length-added, added-zeros, added-append, added_whole, added_twice}

module _ (p : List Bool) (n : ℕ) (es : List ℕ) (one : Powers p n es (true ∷ [])) (far : Each (λ e. e + 64 ≤ n) es) where
  pub turns : (pending m y : List Bool) → length pending ≡ n → 64 ≤ n → length m ≡ 64 → n ≤ length y
      → entered p (added pending (m ++ y)) ≡ entered p (added (folded_bits n es pending m) y)
  unfolding folded_bits
  turns pending m y l wide lm room =
      let a = take 64 pending in
      let f = drop 64 pending in
      let t = xor_bits a m in
      let z = added f y in
      let s = spread n es t in
      let la : length a ≡ length m = length-take-le 64 pending (omega arith) ∙ sym lm in
      let lt : length t ≡ 64 = length-xor a m la ∙ lm in
      let ls : length s ≡ n = length-spread p n es t lt far in
      let lf : length (f ++ zeros 64) ≡ n = simp (length-append, length-drop, length-replicate) (omega arith) in
      let lz : length (take n z) ≡ n = length-take-le n z (omega (arith, length-added f y)) in
      ap (λ x. entered p (added x (m ++ y))) (sym (take-append-drop 64 pending))
      ∙ ap (entered p) (added-append a f m y la)
      ∙ ap (λ x. entered p (t ++ x)) (sym (take-append-drop n z))
      ∙ folds p n es one t (take n z) (drop n z) lt far lz
      ∙ ap (entered p)
      (sym (added_whole s (take n z) (drop n z) (ls ∙ sym lz)) ∙ ap (added s) (take-append-drop n z ∙ sym (added-zeros f y 64)) ∙ added_twice s (f ++ zeros 64) y (ls ∙ sym lf))
