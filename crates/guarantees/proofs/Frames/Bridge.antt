-- Two frames of one framing agree at their flags and at their inserted zeros; all other bits are checked. Assumes nothing.
use mathlib.Core.Path.{◌≡◌, refl, sym, ap, ap₂, ◌∙◌, subst}
use Prim.Native.Nat.{ℕ, suc, ◌+◌, ◌-◌}
use native.Mathlib.Omega.{arith}
use mathlib.Core.Bool.{Bool, true, false, not}
use mathlib.Core.List.{List, [], ◌∷◌, ◌++◌, append_assoc, append-nil, head-eq_of_cons-eq, tail-eq_of_cons-eq}
use lib.Dec.{eqb}
use lib.ListN.{length, take, length-map, take-append-drop}
use lib.Seq.{take-take, length-slice}
use Rattle.bits.specs.Strings.{zeros, invert}
use Rattle.bits.proofs.Bytes.{length-low_bits}
use Rattle.bits.proofs.Differences.{set_from_injective}
use Rattle.cyclic.specs.Check.{Parameters}
use Rattle.frame.specs.Stuffing.{Unstuffed, clean, unstuff_bit, ones_after, unstuff, behind_five}
use Rattle.frame.specs.Frame.{flag}
use Rattle.frame.specs.Read.{between}
use Rattle.guarantees.specs.Frames.{checked_in, checked_bits, is_checked_in, is_checked, frames}
use Rattle.guarantees.proofs.Lines.Masks.{Agree, nothing, inside, outside, select, select-append, select_outside, agree_append, agree_outside, Bridge}
use Rattle.guarantees.proofs.Frames.Unstuffing.{missing_clean, ahead_clean, unstuff_selects}
use Rattle.guarantees.proofs.Frames.Framing.{Passed, passed, one_framing}

-- ---- the inserted zeros

pub length-behind_five : (run : ℕ) (w : List Bool) → length (behind_five run w) ≡ length w
unfolding behind_five
length-behind_five run [] = refl
length-behind_five run (b ∷ w) = ap suc (length-behind_five (ones_after run b) w)

-- what stands behind five ones is a zero, so that two strings with inserted zeros at the same places agree there
agree_bit : (five : Bool) (p q : ℕ) (b c : Bool) (u v : Unstuffed) {s t ms x y : List Bool} → unstuff_bit five b p u ≡ clean s → unstuff_bit five c q v ≡ clean t
    → ((s t : List Bool) → u ≡ clean s → v ≡ clean t → Agree ms x y) → Agree (not five ∷ ms) (b ∷ x) (c ∷ y)
agree_bit true p q true c u v e f ih = absurd (missing_clean e)
agree_bit true p q false true u v e f ih = absurd (missing_clean f)
agree_bit true p q false false u v {s} {t} e f ih = outside false (ih s t e f)
agree_bit false p q b c u v {s} {t} e f ih =
    let h = ahead_clean b u s e in
    let k = ahead_clean c v t f in
    inside b c (ih h.0 k.0 h.1 k.1)

pub agree_unstuffed : (run rone p q : ℕ) (x y s t : List Bool) → unstuff run p x ≡ clean s → unstuff rone q y ≡ clean t
    → behind_five run x ≡ behind_five rone y → Agree (invert (behind_five run x)) x y
unfolding unstuff behind_five
agree_unstuffed run rone p q [] [] s t e f h = nothing
agree_unstuffed run rone p q [] (c ∷ y) s t e f h = absurd (omega (arith, ap length h))
agree_unstuffed run rone p q (b ∷ x) [] s t e f h = absurd (omega (arith, ap length h))
agree_unstuffed run rone p q (b ∷ x) (c ∷ y) s t e f h =
    let one : eqb run 5 ≡ eqb rone 5 = head-eq_of_cons-eq h in
    let u = unstuff (ones_after run b) (p + 1) x in
    let v = unstuff (ones_after rone c) (q + 1) y in
    agree_bit (eqb run 5) p q b c u v e (ap (λ five. unstuff_bit five c q v) one ∙ f)
    (λ s t d g. agree_unstuffed (ones_after run b) (ones_after rone c) (p + 1) (q + 1) x y s t d g (tail-eq_of_cons-eq h))

-- ---- flags

pub length-flag : length flag ≡ 8
unfolding flag
length-flag = length-low_bits 8 0x7E

module _ (m : Parameters) (frame s : List Bool) (h : Passed m frame s) where
  -- a frame is its opening flag, what stands between, and its closing flag
  pub whole : frame ≡ flag ++ (between frame ++ flag)
  whole =
      let n = length frame - 8 in
      sym (take-append-drop n frame)
      ∙ ap₂ ◌++◌ (sym (take-append-drop 8 (take n frame)) ∙ ap (λ z. z ++ between frame) (take-take 8 n frame (omega (arith, h.long)) ∙ h.opening)) h.closing
      ∙ append_assoc flag (between frame) flag

  pub length-between : length (between frame) ≡ length frame - 16
  length-between = length-slice 8 (length frame - 8) frame (omega arith) ∙ omega (arith, h.long)

  pub selects : select (zeros 8 ++ (invert (behind_five 0 (between frame)) ++ zeros 8)) frame ≡ s
  selects =
      let ms = invert (behind_five 0 (between frame)) in
      let l : length ms ≡ length (between frame) = length-map (behind_five 0 (between frame)) not ∙ length-behind_five 0 (between frame) in
      ap (select (zeros 8 ++ (ms ++ zeros 8))) whole
      ∙ select-append (zeros 8) (ms ++ zeros 8) flag (between frame ++ flag) (sym length-flag)
      ∙ ap₂ ◌++◌ (select_outside 8 flag) (select-append ms (zeros 8) (between frame) flag l)
      ∙ ap₂ ◌++◌ (unstuff_selects 0 8 (between frame) s h.zeros_stand) (select_outside 8 flag)
      ∙ append-nil s

-- ---- two frames

module _ (m : Parameters) (A B s t : List Bool) (a : Passed m A s) (b : Passed m B t) (one : length A ≡ length B)
    (zeros_at : behind_five 0 (between A) ≡ behind_five 0 (between B)) where
  pub agree : Agree (zeros 8 ++ (invert (behind_five 0 (between A)) ++ zeros 8)) A B
  agree =
      let ms = invert (behind_five 0 (between A)) in
      let g = agree_append (agree_outside 8 flag length-flag)
      (agree_append (agree_unstuffed 0 0 8 8 (between A) (between B) s t a.zeros_stand b.zeros_stand zeros_at) (agree_outside 8 flag length-flag)) in
      subst (λ y. Agree (zeros 8 ++ (ms ++ zeros 8)) A y) (sym (whole m B t b))
      (subst (λ x. Agree (zeros 8 ++ (ms ++ zeros 8)) x (flag ++ (between B ++ flag))) (sym (whole m A s a)) g)

pub frame_bridge : (m : Parameters) → Bridge (frames m)
unfolding checked_bits is_checked
frame_bridge m A B p =
    let o = one_framing m A B p in
    let s = o.a.checked in
    let t = o.b.checked in
    let a = passed m s A o.a.is_found in
    let b = passed m t B o.b.is_found in
    let one = p.one_length in
    let z : behind_five 0 (between A) ≡ behind_five 0 (between B) =
    set_from_injective 8 (behind_five 0 (between A)) (behind_five 0 (between B))
    (length-behind_five 0 (between A) ∙ length-between m A s a ∙ omega arith ∙ sym (length-between m B t b) ∙ sym (length-behind_five 0 (between B))) o.zeros_at in
    let mask : is_checked m A ≡ zeros 8 ++ (invert (behind_five 0 (between A)) ++ zeros 8) = ap (is_checked_in A) o.a.is_found in
    record {
      agree = rw mask (agree m A B s t a b one z);
      first = ap (λ ms. select ms A) mask ∙ selects m A s a ∙ sym (ap checked_in o.a.is_found);
      second =
          ap (λ ms. select ms B) (mask ∙ ap (λ x. zeros 8 ++ (invert x ++ zeros 8)) z) ∙ selects m B t b
          ∙ sym (ap checked_in o.b.is_found);
      injective = λ e. e;
    }
