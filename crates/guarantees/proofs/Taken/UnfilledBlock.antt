-- A line without its fill signs, from the header on and from its start on: it is what the writer sends for the parts that are read,
-- and the writer takes these parts. Laws of one byte more in front. Assumes nothing.
use mathlib.Core.Path.{◌≡◌, refl, sym, ap}
use Prim.Native.Nat.{ℕ}
use mathlib.Core.Bool.{Bool, true, false, cond, not, ◌&&◌, ◌||◌, true≢false}
use mathlib.Core.List.{List, [], ◌∷◌, ◌++◌}
use Rattle.block.specs.declared.Parity.{Parity}
use Rattle.block.specs.declared.Shape.{Shape}
use Rattle.block.specs.declared.Shape.TheVariants as shape
use Rattle.block.specs.declared.EndSign.{EndSign}
use Rattle.block.specs.declared.Mark.{Mark}
use Rattle.block.specs.declared.Mark.TheVariants.{LeftOut, HeaderByte, End}
use Rattle.block.specs.declared.Field.{Field}
use Rattle.block.specs.declared.Field.TheVariants.{Header}
use Rattle.block.specs.Signs.{CodeTable, end_byte}
use Rattle.block.specs.Walk.{ended}
use Rattle.block.specs.Marks.{shape_of}
use Rattle.block.specs.Write.{is_clear, has_header, has_text, start_signs, inner_signs, is_free}
use Rattle.guarantees.proofs.Writing.{Free, Allowed}
use Rattle.guarantees.proofs.Taken.Unfilled.{Carries, Unfilled, unmarked, marked, kept}
use Rattle.guarantees.proofs.Taken.UnfilledText.{text_bytes}

pub plain_carried : (seven : Bool) → not (seven && false) ≡ true
plain_carried true = refl
plain_carried false = refl

or-true : (t : Bool) → t || true ≡ true
or-true true = refl
or-true false = refl

module _ (table : CodeTable) (seven : Bool) (p : Parity) where
  -- a line walked over up to the end sign e in field g; `started`: from behind SOH on
  pub record BlockLeft (started : Bool) (g : Field) (e : EndSign) (ks : List Mark) (line left : List ℕ) : Type 0 where
    pub kind : Shape
    pub head : List ℕ
    pub body : List ℕ
    pub inner : Bool
    pub is_shape : shape_of inner g ≡ kind
    pub is_left : Unfilled seven p ks line left (cond started [] (start_signs table kind) ++ (head ++ (inner_signs table kind ++ text_bytes table (is_clear kind) e body)))
        (head ++ (inner_signs table kind ++ (body ++ end_byte table e ∷ []))) head body inner
    pub has_header_lem : started ≡ true → has_header kind ≡ true
    pub allowed : Allowed table seven kind head body

  -- ---- a byte of the header

  pub header_end : {g : Field} {d e : EndSign} {b : ℕ} (rest : List ℕ) → Carries seven p b (end_byte table e) → ended Header d ≡ ended g e
      → BlockLeft true g e (End ∷ []) (b ∷ rest) (b ∷ rest)
  header_end {g = g} rest c h =
      let q : g ≡ Header = cc in
      record {
        kind = shape.Header;
        head = [];
        body = [];
        inner = false;
        is_shape = ap (shape_of false) q;
        is_left = kept seven p c (unmarked seven p rest) End;
        has_header_lem = λ s. refl;
        allowed = record { carried = plain_carried seven; header-fits = refl; text-fits = refl; header_free = tt; text_free = tt };
      }

  pub header-byte : {g : Field} {e : EndSign} {ks : List Mark} {line left : List ℕ} {b c : ℕ} → Carries seven p b c
      → BlockLeft true g e ks line left → is_free table seven c ≡ true → BlockLeft true g e (HeaderByte ∷ ks) (b ∷ line) (b ∷ left)
  header-byte {c = c} d h f =
      record {
        kind = h.kind;
        head = c ∷ h.head;
        body = h.body;
        inner = h.inner;
        is_shape = h.is_shape;
        is_left = kept seven p d h.is_left HeaderByte;
        has_header_lem = h.has_header_lem;
        allowed =
            record {
              carried = h.allowed.carried;
              header-fits = rw (h.has_header_lem refl);
              text-fits = h.allowed.text-fits;
              header_free = (f, h.allowed.header_free);
              text_free = h.allowed.text_free;
            };
      }

  -- ---- a fill sign, ahead of the start or in the header

  pub fill-byte : {started : Bool} {g : Field} {e : EndSign} {ks : List Mark} {line left : List ℕ} {b c : ℕ} → Carries seven p b c
      → BlockLeft started g e ks line left → BlockLeft started g e (LeftOut ∷ ks) (b ∷ line) left
  fill-byte d h =
      record {
        kind = h.kind;
        head = h.head;
        body = h.body;
        inner = h.inner;
        is_shape = h.is_shape;
        is_left = marked seven p d h.is_left LeftOut;
        has_header_lem = h.has_header_lem;
        allowed = h.allowed;
      }

  -- ---- the start: SOH before the header

  pub soh_before : {g : Field} {e : EndSign} {ks : List Mark} {line left : List ℕ} {b : ℕ} → Carries seven p b table.SOH → BlockLeft true g e ks line left
      → BlockLeft false g e (LeftOut ∷ ks) (b ∷ line) (b ∷ left)
  soh_before d h =
      record {
        kind = h.kind;
        head = h.head;
        body = h.body;
        inner = h.inner;
        is_shape = h.is_shape;
        is_left = rw (h.has_header_lem refl) (kept seven p d (rw (h.has_header_lem refl) at h.is_left) LeftOut);
        has_header_lem = λ n. absurd (true≢false (sym n));
        allowed = h.allowed;
      }

  -- ---- the signs before the text: the start of the line, or behind SOH an inner start

  pub text_block : (s : Shape) {g : Field} {e : EndSign} {ks : List Mark} {line left body : List ℕ} → has_text s ≡ true → shape_of (has_header s) g ≡ s
      → not (seven && is_clear s) ≡ true → Free table seven (cond (is_clear s) [] body)
      → Unfilled seven p ks line left (cond (has_header s) [] (start_signs table s) ++ (inner_signs table s ++ text_bytes table (is_clear s) e body))
      (inner_signs table s ++ (body ++ end_byte table e ∷ [])) [] body (has_header s) → BlockLeft (has_header s) g e ks line left
  text_block s {body = body} t q k f u =
      record {
        kind = s;
        head = [];
        body = body;
        inner = has_header s;
        is_shape = q;
        is_left = u;
        has_header_lem = λ h. h;
        allowed = record { carried = k; header-fits = or-true (has_header s); text-fits = rw t; header_free = tt; text_free = f };
      }
