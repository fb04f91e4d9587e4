-- A block with a framing is one whose marks the questions up to 17 found; it is accepted where 18 and 54 find its check right.
-- Assumes nothing.
use mathlib.Core.Path.{◌≡◌, refl, sym, ap, ap₂, ◌∙◌}
use mathlib.Core.Logic.{◌↔◌}
use Prim.Native.Nat.{ℕ}
use native.Mathlib.Omega.{arith}
use mathlib.Core.Bool.{Bool, true, false}
use mathlib.Core.List.{List}
use lib.Dec.{leb}
use Rattle.bits.specs.Strings.{same}
use Rattle.bits.specs.Bytes.{bits_of}
use Rattle.block.specs.declared.Method.{Method}
use Rattle.block.specs.declared.Parity.{Parity}
use Rattle.block.specs.declared.EndSign.{EndSign}
use Rattle.block.specs.declared.Mark.{Mark}
use Rattle.block.specs.declared.Field.{Field}
use Rattle.block.specs.Signs.{CodeTable}
use Rattle.block.specs.Marks.{counted, check_bytes, left_out}
use Rattle.block.specs.Check.{check_of}
use Rattle.block.specs.Read.{Framed, found, unframed, framed, none, framing, framing_by, framing_of, first_asked, then_asked, ask_check, Parts, parts_of, output_length, read_block}
use Rattle.block.proofs.Asked.{asked_both, first-self, then-self}
use Rattle.guarantees.specs.Lines.{SameFraming}
use Rattle.guarantees.specs.Blocks.{Accepts, Accepted, refusals, blocks}
use Rattle.guarantees.proofs.Lines.Numbers.{listed_not_last}
use Rattle.guarantees.proofs.Blocks.Numbers.{FramedNumbered, framed_numbered, answer}

-- ---- a line with a framing; accepted where 18 and 54 find its check right

abbrev pub CheckRight : Method → Parity → List Mark → List ℕ → Type 0
CheckRight m p ks line = bits_of (check_bytes ks line) ≡ check_of m p (counted ks line)

pub record Found (table : CodeTable) (m : Method) (p : Parity) (line : List ℕ) : Type 0 where
  pub marks : List Mark
  pub field : Field
  pub end : EndSign
  pub is_found : framed table m p line ≡ found marks field end

module _ (table : CodeTable) (m : Method) (p : Parity) (line : List ℕ) where
  answered : (w : Framed) (room : ℕ) → framed table m p line ≡ w → read_block table m p line room ≡ ask_check m p line room w
  unfolding read_block
  answered w room e = ap (ask_check m p line room) e

  pub found_framing : (framing_of table m p line ≡ none → ⊥) → Found table m p line
  unfolding framing_of
  found_framing h = go (framed table m p line) refl
    where
      go : (w : Framed) → framed table m p line ≡ w → Found table m p line
      go (found ks f d) e = record { marks = ks; field = f; end = d; is_found = e }
      go (unframed n v) e = absurd (h (ap (framing_by line) e))

  pub has_framing : Found table m p line → framing_of table m p line ≡ none → ⊥
  unfolding framing_of
  has_framing r h =
      let q : framing (left_out 0 r.marks line) ≡ none = sym (ap (framing_by line) r.is_found) ∙ h in
      let z : ◌≡◌ {A = ℕ} 0 1 = cc in
      omega arith

  pub accepted_found : Accepted table m p line → Found table m p line
  accepted_found acc = go (framed table m p line) refl (framed_numbered table m p line)
    where
      go : (w : Framed) → framed table m p line ≡ w → FramedNumbered w → Found table m p line
      go (found ks f d) e h = record { marks = ks; field = f; end = d; is_found = e }
      go (unframed n v) e h = let q : n ≡ 19 = rw (answered (unframed n v) 0 e) at (acc 0) in absurd (listed_not_last refusals 19 n refl h q)

  module _ (r : Found table m p line) where
    abbrev received : List Bool
    received = bits_of (check_bytes r.marks line)

    abbrev computed : List Bool
    computed = check_of m p (counted r.marks line)

    abbrev pub parts : Parts
    parts = parts_of m line r.marks r.field r.end

    abbrev fits : ℕ → Bool
    fits room = leb (output_length parts) room

    abbrev first : Bool
    first = same (first_asked m received) (first_asked m computed)

    abbrev second : Bool
    second = same (then_asked m received) (then_asked m computed)

    answer_to : (room : ℕ) {t u : Bool} → first ≡ t → second ≡ u → read_block table m p line room ≡ answer t u (fits room) parts
    answer_to room e f = answered (found r.marks r.field r.end) room r.is_found ∙ ap₂ (λ t u. answer t u (fits room) parts) e f

    pub right_answer : CheckRight m p r.marks line → (room : ℕ) → read_block table m p line room ≡ answer true true (fits room) parts
    right_answer e room = answer_to room (first-self m e) (then-self m e)

    pub accepted_right : Accepted table m p line ↔ CheckRight m p r.marks line
    accepted_right = (λ acc. go acc first refl second refl, λ e room. rw (right_answer e room) (right (fits room)))
      where
        go : Accepted table m p line → (t : Bool) → first ≡ t → (u : Bool) → second ≡ u → received ≡ computed
        go acc true e true f = asked_both m received computed e f
        go acc true e false f = let q : ◌≡◌ {A = ℕ} 54 19 = rw (answer_to 0 e f) at (acc 0) in absurd (omega arith)
        go acc false e u f = let q : ◌≡◌ {A = ℕ} 18 19 = rw (answer_to 0 e f) at (acc 0) in absurd (omega arith)

        right : (t : Bool) → Accepts (answer true true t parts)
        right true = tt
        right false = refl

-- ---- two lines of one framing

pub record OneFraming (table : CodeTable) (m : Method) (p : Parity) (A B : List ℕ) : Type 0 where
  pub a : Found table m p A
  pub b : Found table m p B
  pub one_left_out : left_out 0 a.marks A ≡ left_out 0 b.marks B

pub one_framing : (table : CodeTable) (m : Method) (p : Parity) (A B : List ℕ) → SameFraming (blocks table m p) A B → OneFraming table m p A B
unfolding framing_of
one_framing table m p A B s =
    let a = found_framing table m p A s.has_framing in
    let b = found_framing table m p B (λ e. s.has_framing (s.one_framing ∙ e)) in
    let q : framing (left_out 0 a.marks A) ≡ framing (left_out 0 b.marks B) =
    sym (ap (framing_by A) a.is_found) ∙ s.one_framing ∙ ap (framing_by B) b.is_found in
    record { a = a; b = b; one_left_out = cc }
