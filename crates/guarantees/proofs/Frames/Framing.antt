-- A frame with a framing is one that passed 32 to 36; it is accepted where 37 finds its check right. Assumes nothing.
use mathlib.Core.Path.{◌≡◌, refl, sym, ap, ◌∙◌}
use mathlib.Core.Logic.{◌↔◌}
use Prim.Native.Nat.{ℕ, ◌+◌, ◌-◌, ◌≤◌}
use native.Mathlib.Omega.{arith}
use mathlib.Core.Bool.{Bool, true, false}
use mathlib.Core.List.{List}
use lib.Dec.{leb}
use lib.ListN.{length, take, drop}
use borrow.Author.Tests.{leb-true}
use Rattle.bits.proofs.Tests.{ask-passed}
use Rattle.bits.specs.Strings.{same}
use Rattle.bits.specs.Bytes.{bytes_for}
use Rattle.bits.specs.Differences.{set_from}
use Rattle.bits.proofs.Strings.{same_sound, same_self}
use Rattle.cyclic.specs.Check.{Parameters, check_bits}
use Rattle.frame.specs.Stuffing.{Unstuffed, clean, missing, unstuff, behind_five}
use Rattle.frame.specs.Frame.{width, limit_bits, flag}
use Rattle.frame.specs.Read.{Framed, found, unframed, ask_length, ask_zeros, between, framed, none, framing, framing_by, framing_of, content_of, check_in, ask_check, read_bits}
use Rattle.guarantees.specs.Lines.{SameFraming}
use Rattle.guarantees.specs.Frames.{Accepts, Accepted, refusals, frames}
use Rattle.guarantees.proofs.Lines.Numbers.{listed_not_last}
use Rattle.guarantees.proofs.Frames.Numbers.{FramedNumbered, framed_numbered, answer}

-- ---- 32 to 36

pub record Passed (m : Parameters) (frame s : List Bool) : Type 0 where
  pub long : 16 ≤ length frame
  pub opening : take 8 frame ≡ flag
  pub closing : drop (length frame - 8) frame ≡ flag
  pub zeros_stand : unstuff 0 8 (between frame) ≡ clean s
  pub content : 1 + width m ≤ length s
  pub within : length s ≤ limit_bits m + width m

same_true : (a b : List Bool) → same a b ≡ true → a ≡ b
same_true a b e = same_sound a b (rw e tt)

apart : {n v : ℕ} {s : List Bool} → unframed n v ≡ found s → ⊥
apart {n = n} {v = v} {s = s} e = let z : ◌≡◌ {A = ℕ} 0 1 = cc in omega arith

module _ (m : Parameters) (s : List Bool) where
  pub lengths : (u : List Bool) → ask_length m u ≡ found s → (u ≡ s) × (1 + width m ≤ length s) × (length s ≤ limit_bits m + width m)
  lengths u e =
      let a = ask-passed (leb (1 + width m) (length u)) apart e in
      let b = ask-passed (leb (length u) (limit_bits m + width m)) apart a.1 in
      let q : u ≡ s = cc b.1 in
      (q, rw (← q) (leb-true _ _ a.0), rw (← q) (leb-true _ _ b.0))

  zeros_of : (u : Unstuffed) → ask_zeros m u ≡ found s → (u ≡ clean s) × (1 + width m ≤ length s) × (length s ≤ limit_bits m + width m)
  zeros_of (missing p) e = absurd (apart e)
  zeros_of (clean u) e = let l = lengths u e in (ap clean l.0, l.1, l.2)

  pub passed : (frame : List Bool) → framed m frame ≡ found s → Passed m frame s
  unfolding framed
  passed frame e =
      let a = ask-passed (leb 16 (length frame)) apart e in
      let b = ask-passed (same (take 8 frame) flag) apart a.1 in
      let c = ask-passed (same (drop (length frame - 8) frame) flag) apart b.1 in
      let z = zeros_of (unstuff 0 8 (between frame)) c.1 in
      record {
        long = leb-true _ _ a.0;
        opening = same_true _ _ b.0;
        closing = same_true _ _ c.0;
        zeros_stand = z.0;
        content = z.1;
        within = z.2;
      }

-- ---- a frame with a framing; accepted where 37 finds its check right

abbrev pub CheckRight : Parameters → List Bool → Type 0
CheckRight m s = check_in m s ≡ check_bits m (content_of m s)

-- content and check
pub record Found (m : Parameters) (frame : List Bool) : Type 0 where
  pub checked : List Bool
  pub is_found : framed m frame ≡ found checked

module _ (m : Parameters) (frame : List Bool) where
  answered : (w : Framed) (room : ℕ) → framed m frame ≡ w → read_bits m frame room ≡ ask_check m room w
  unfolding read_bits
  answered w room e = ap (ask_check m room) e

  pub found_framing : (framing_of m frame ≡ none → ⊥) → Found m frame
  unfolding framing_of
  found_framing h = go (framed m frame) refl
    where
      go : (w : Framed) → framed m frame ≡ w → Found m frame
      go (found s) e = record { checked = s; is_found = e }
      go (unframed n v) e = absurd (h (ap (framing_by frame) e))

  pub has_framing : Found m frame → framing_of m frame ≡ none → ⊥
  unfolding framing_of
  has_framing r h =
      let q : framing (set_from 8 (behind_five 0 (between frame))) ≡ none = sym (ap (framing_by frame) r.is_found) ∙ h in
      let z : ◌≡◌ {A = ℕ} 0 1 = cc in
      omega arith

  pub accepted_found : Accepted m frame → Found m frame
  accepted_found acc = go (framed m frame) refl (framed_numbered m frame)
    where
      go : (w : Framed) → framed m frame ≡ w → FramedNumbered w → Found m frame
      go (found s) e h = record { checked = s; is_found = e }
      go (unframed n v) e h = let q : n ≡ 38 = rw (answered (unframed n v) 0 e) at (acc 0) in absurd (listed_not_last refusals 38 n refl h q)

  module _ (r : Found m frame) where
    abbrev pub content : List Bool
    content = content_of m r.checked

    abbrev received : List Bool
    received = check_in m r.checked

    abbrev fits : ℕ → Bool
    fits room = leb (bytes_for (length content)) room

    answer_to : (room : ℕ) {t : Bool} → same received (check_bits m content) ≡ t → read_bits m frame room ≡ answer t (fits room) content
    answer_to room e = answered (found r.checked) room r.is_found ∙ ap (λ t. answer t (fits room) content) e

    pub right_answer : CheckRight m r.checked → (room : ℕ) → read_bits m frame room ≡ answer true (fits room) content
    right_answer e room = answer_to room (ap (same received) (sym e) ∙ same_self received)

    pub accepted_right : Accepted m frame ↔ CheckRight m r.checked
    accepted_right = (λ acc. go acc (same received (check_bits m content)) refl, λ e room. rw (right_answer e room) (right (fits room)))
      where
        go : Accepted m frame → (t : Bool) → same received (check_bits m content) ≡ t → CheckRight m r.checked
        go acc true e = same_true received (check_bits m content) e
        go acc false e = let q : ◌≡◌ {A = ℕ} 37 38 = rw (answer_to 0 e) at (acc 0) in absurd (omega arith)

        right : (t : Bool) → Accepts (answer true t content)
        right true = tt
        right false = refl

-- ---- two frames of one framing

pub record OneFraming (m : Parameters) (A B : List Bool) : Type 0 where
  pub a : Found m A
  pub b : Found m B
  pub zeros_at : set_from 8 (behind_five 0 (between A)) ≡ set_from 8 (behind_five 0 (between B))

pub one_framing : (m : Parameters) (A B : List Bool) → SameFraming (frames m) A B → OneFraming m A B
unfolding framing_of
one_framing m A B s =
    let a = found_framing m A s.has_framing in
    let b = found_framing m B (λ e. s.has_framing (s.one_framing ∙ e)) in
    let q : framing (set_from 8 (behind_five 0 (between A))) ≡ framing (set_from 8 (behind_five 0 (between B))) =
    sym (ap (framing_by A) a.is_found) ∙ s.one_framing ∙ ap (framing_by B) b.is_found in
    record { a = a; b = b; zeros_at = cc }
