-- Zero insertion and removal undo one another, and removal keeps the bits that do not stand behind five ones. Assumes nothing.
use mathlib.Core.Path.{◌≡◌, refl, sym, ap, ◌∙◌}
use Prim.Native.Nat.{ℕ, ◌+◌, ◌≤◌}
use native.Mathlib.Omega.{arith}
use mathlib.Core.Bool.{Bool, true, false, not, cond}
use mathlib.Core.List.{List, [], ◌∷◌, ◌++◌}
use lib.Dec.{eqb}
use borrow.Author.Tests.{eqb-true, eqb-false, ne_eqb, eq-eqb}
use Rattle.bits.specs.Strings.{invert}
use Rattle.frame.specs.Stuffing.{is_fifth, run_on, zero_if, stuff, Unstuffed, clean, missing, ahead, unstuff_bit, ones_after, unstuff, behind_five}
use Rattle.guarantees.proofs.Lines.Masks.{select}

pub missing_clean : {p : ℕ} {s : List Bool} → missing p ≡ clean s → ⊥
missing_clean {p = p} {s = s} e = let z : ◌≡◌ {A = ℕ} 0 1 = cc in omega arith

-- a clean rest behind a bit
abbrev pub Behind : Bool → Unstuffed → List Bool → Type 0
Behind b u s = (t : List Bool) × (u ≡ clean t) × (s ≡ b ∷ t)

pub ahead_clean : (b : Bool) (u : Unstuffed) (s : List Bool) → ahead b u ≡ clean s → Behind b u s
ahead_clean b (clean t) s e = (t, refl, cc)
ahead_clean b (missing p) s e = absurd (missing_clean e)

-- removal selects the bits that do not stand behind five ones
pub unstuff_selects : (run p : ℕ) (w s : List Bool) → unstuff run p w ≡ clean s → select (invert (behind_five run w)) w ≡ s
unfolding unstuff behind_five
unstuff_selects run p [] s e = go (eqb run 5) e
  where
    go : (t : Bool) → cond t (missing p) (clean []) ≡ clean s → [] ≡ s
    go true e = absurd (missing_clean e)
    go false e = cc
unstuff_selects run p (b ∷ w) s e = go (eqb run 5) b e (λ t. unstuff_selects (ones_after run b) (p + 1) w t)
  where
    go : (five c : Bool) → unstuff_bit five c p (unstuff (ones_after run b) (p + 1) w) ≡ clean s
        → ((t : List Bool) → unstuff (ones_after run b) (p + 1) w ≡ clean t → select (invert (behind_five (ones_after run b) w)) w ≡ t)
        → select (not five ∷ invert (behind_five (ones_after run b) w)) (c ∷ w) ≡ s
    go true true e ih = absurd (missing_clean e)
    go true false e ih = ih s e
    go false c e ih =
        let h = ahead_clean c (unstuff (ones_after run b) (p + 1) w) s e in
        ap (λ z. c ∷ z) (ih h.0 h.1) ∙ sym h.2

-- ---- what was stuffed is found again

pub unstuff-stuff : (run p : ℕ) (s : List Bool) → run ≤ 4 → unstuff run p (stuff run s) ≡ clean s
unfolding stuff unstuff is_fifth run_on
unstuff-stuff run p [] h = simp (ne_eqb run 5 (omega arith))
unstuff-stuff run p (false ∷ s) h = simp (ne_eqb run 5 (omega arith), unstuff-stuff 0 (p + 1) s (omega arith))
unstuff-stuff run p (true ∷ s) h =
    go (eqb run 4) refl (unstuff-stuff 0 (p + 1 + 1) s (omega arith)) (λ l. unstuff-stuff (run + 1) (p + 1) s l)
  where
    go : (t : Bool) → eqb run 4 ≡ t → unstuff 0 (p + 1 + 1) (stuff 0 s) ≡ clean s → (run + 1 ≤ 4 → unstuff (run + 1) (p + 1) (stuff (run + 1) s) ≡ clean s)
        → unstuff_bit (eqb run 5) true p (unstuff (run + 1) (p + 1) (zero_if t ++ stuff (cond t 0 (run + 1)) s)) ≡ clean (true ∷ s)
    go true e inserted plain =
        let q = eqb-true run 4 e in
        simp (ne_eqb run 5 (omega arith), eq-eqb (run + 1) 5 (omega arith), inserted)
    go false e inserted plain =
        let ne = eqb-false run 4 e in
        simp (ne_eqb run 5 (omega arith), plain (omega arith))

-- ---- what was found is stuffed again

-- the bits on the line for s; behind five ones the inserted zero is still to come
abbrev on_line : ℕ → List Bool → List Bool
on_line run s = cond (eqb run 5) (false ∷ stuff 0 s) (stuff run s)

module _ (run p : ℕ) (w s : List Bool) (ih : (r q : ℕ) (t : List Bool) → r ≤ 5 → unstuff r q w ≡ clean t → w ≡ on_line r t) where
  stuffed_data : (b : Bool) → run ≤ 4 → (t : List Bool) → unstuff (ones_after run b) (p + 1) w ≡ clean t → b ∷ w ≡ stuff run (b ∷ t)
  unfolding stuff is_fifth run_on
  stuffed_data false h t e = ap (λ r. false ∷ r) (ih 0 (p + 1) t (omega arith) e)
  stuffed_data true h t e = go (eqb run 4) refl
    where
      go : (q : Bool) → eqb run 4 ≡ q → true ∷ w ≡ true ∷ zero_if q ++ stuff (cond q 0 (run + 1)) t
      go true z =
          let n = eqb-true run 4 z in
          ap (λ r. true ∷ r) (simp (eq-eqb (run + 1) 5 (omega arith)) at (ih (run + 1) (p + 1) t (omega arith) e))
      go false z =
          let n = eqb-false run 4 z in
          ap (λ r. true ∷ r) (simp (ne_eqb (run + 1) 5 (omega arith)) at (ih (run + 1) (p + 1) t (omega arith) e))

  stuffed_bit : (b : Bool) → run ≤ 5 → unstuff run p (b ∷ w) ≡ clean s → b ∷ w ≡ on_line run s
  unfolding unstuff
  stuffed_bit b h e = go b (eqb run 5) refl e
    where
      go : (b t : Bool) → eqb run 5 ≡ t → unstuff_bit t b p (unstuff (ones_after run b) (p + 1) w) ≡ clean s → b ∷ w ≡ cond t (false ∷ stuff 0 s) (stuff run s)
      go true true z e = absurd (missing_clean e)
      go false true z e = ap (λ r. false ∷ r) (ih 0 (p + 1) s (omega arith) e)
      go b false z e =
          let n = eqb-false run 5 z in
          let c = ahead_clean b (unstuff (ones_after run b) (p + 1) w) s e in
          rw c.2 (stuffed_data b (omega arith) c.0 c.1)

stuffed : (run p : ℕ) (w s : List Bool) → run ≤ 5 → unstuff run p w ≡ clean s → w ≡ on_line run s
unfolding stuff unstuff
stuffed run p [] s h e = go s (eqb run 5) e
  where
    go : (s : List Bool) (t : Bool) → cond t (missing p) (clean []) ≡ clean s → [] ≡ cond t (false ∷ stuff 0 s) (stuff run s)
    go s true e = absurd (missing_clean e)
    go s false e = let z : [] ≡ s = cc in ap (stuff run) z
stuffed run p (b ∷ w) s h e = stuffed_bit run p w s (λ r q t l u. stuffed r q w t l u) b h e

pub stuff-unstuff : (p : ℕ) (w s : List Bool) → unstuff 0 p w ≡ clean s → w ≡ stuff 0 s
stuff-unstuff p w s e = stuffed 0 p w s (omega arith) e
