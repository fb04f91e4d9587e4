-- The walk over a header and over a whole line: what is left of the line without its fill signs is what the writer sends for the
-- parts that are read. Assumes nothing.
use mathlib.Core.Path.{◌≡◌, refl, ap}
use Prim.Native.Nat.{ℕ, ◌+◌}
use mathlib.Core.Bool.{Bool, true, false, cond, not, ◌&&◌}
use mathlib.Core.List.{List, [], ◌∷◌, ◌++◌}
use Rattle.bits.specs.Differences.{cons_if}
use Rattle.block.specs.declared.Parity.{Parity}
use Rattle.block.specs.declared.Shape.TheVariants as shape
use Rattle.block.specs.declared.EndSign.{EndSign}
use Rattle.block.specs.declared.EndSign.TheVariants.{Etx, Etb, Us}
use Rattle.block.specs.declared.Mark.{Mark}
use Rattle.block.specs.declared.Mark.TheVariants.{LeftOut, InnerStart}
use Rattle.block.specs.declared.Field.{Field}
use Rattle.block.specs.declared.Field.TheVariants.{Start, StartDle, Header, HeaderDle, Text, Clear, ClearDle}
use Rattle.block.specs.declared.Judged.{Judged}
use Rattle.block.specs.declared.Judged.TheVariants.{Is, NoStart, OutOfPlace}
use Rattle.block.specs.Signs.{CodeTable, Sign, soh, stx, etx, dle, syn, etb, us, other, sign_of, end_byte}
use Rattle.block.specs.Characters.{character, sent}
use Rattle.block.specs.Walk.{ended, Walked, judge, onward, walk}
use Rattle.block.specs.Marks.{shape_of}
use Rattle.guarantees.specs.Fill.{is_fill, first_sign, unfilled_behind, unfilled}
use Rattle.guarantees.proofs.Taken.Characters.{Resent, OfSign, of_sign, other_free}
use Rattle.guarantees.proofs.Taken.Unfilled.{Unfilled, kept}
use Rattle.guarantees.proofs.Taken.UnfilledText.{not_ended, text_bytes, carries, end_carries, TextLeft, plain_text, clear_text, text-left}
use Rattle.guarantees.proofs.Taken.UnfilledBlock.{plain_carried, BlockLeft, header_end, fill-byte, header-byte, soh_before, text_block}

module _ (table : CodeTable) (seven : Bool) (p : Parity) where
  -- ---- behind a DLE: STX and clear text

  record ClearLeft (started : Bool) (g : Field) (e : EndSign) (ks : List Mark) (line left : List ℕ) : Type 0 where
    body : List ℕ
    ends_in : g ≡ ClearDle
    is_left : Unfilled seven p ks line left (table.STX ∷ text_bytes table true e body) (cons_if started table.STX (body ++ end_byte table e ∷ [])) [] body started

  abbrev dle_field : Bool → Field
  dle_field started = cond started HeaderDle StartDle

  module _ {g : Field} {e : EndSign} (b : ℕ) (rest : List ℕ) (r : sent seven p (character seven b) ≡ b) (at : ℕ) (go : Field → Walked) (left : Field → List ℕ)
      (in_clear_lem : (go Clear).stop ≡ ended g e → TextLeft table seven p true g e (go Clear).marks rest (left Clear)) where
    clear_step : (started : Bool) (s : Sign) → OfSign table s (character seven b) → (onward go (dle_field started) at (judge seven (dle_field started) s)).stop ≡ ended g e
        → ClearLeft started g e (onward go (dle_field started) at (judge seven (dle_field started) s)).marks (b ∷ rest)
        (cons_if (not (is_fill (dle_field started) s (first_sign table seven rest))) b (unfilled_behind left rest (judge seven (dle_field started) s)))
    clear_step true soh o h = absurd (not_ended h)
    clear_step true stx o h =
        let t = in_clear_lem h in record { body = t.body; ends_in = t.ends_in; is_left = kept seven p (carries table seven p r o) t.is_left InnerStart }
    clear_step true etx o h = absurd (not_ended h)
    clear_step true dle o h = absurd (not_ended h)
    clear_step true syn o h = absurd (not_ended h)
    clear_step true etb o h = absurd (not_ended h)
    clear_step true us o h = absurd (not_ended h)
    clear_step true other o h = absurd (not_ended h)
    clear_step false soh o h = absurd (not_ended h)
    clear_step false stx o h =
        let t = in_clear_lem h in record { body = t.body; ends_in = t.ends_in; is_left = kept seven p (carries table seven p r o) t.is_left LeftOut }
    clear_step false etx o h = absurd (not_ended h)
    clear_step false dle o h = absurd (not_ended h)
    clear_step false syn o h = absurd (not_ended h)
    clear_step false etb o h = absurd (not_ended h)
    clear_step false us o h = absurd (not_ended h)
    clear_step false other o h = absurd (not_ended h)

  clear_left : {g : Field} {e : EndSign} (started : Bool) (line : List ℕ) → Resent seven p line → (at : ℕ) → (walk table seven line at (dle_field started)).stop ≡ ended g e
      → ClearLeft started g e (walk table seven line at (dle_field started)).marks line (unfilled table seven line (dle_field started))
  clear_left true [] r at h = absurd (not_ended h)
  clear_left false [] r at h = absurd (not_ended h)
  clear_left started (b ∷ rest) r at h =
      clear_step b rest r.0 at (walk table seven rest (at + 1)) (unfilled table seven rest) (text-left table seven p rest r.1 (at + 1) clear_text) started
      (sign_of table (character seven b)) (of_sign table (character seven b)) h

  -- ---- the start and the header

  abbrev block_field : Bool → Field
  block_field started = cond started Header Start

  abbrev dle_judged : Bool → Bool → Judged
  dle_judged started t = cond t (cond started OutOfPlace NoStart) (cond started (Is InnerStart HeaderDle) (Is LeftOut StartDle))

  module _ {g : Field} {e : EndSign} (b : ℕ) (rest : List ℕ) (r : sent seven p (character seven b) ≡ b) (at : ℕ) (go : Field → Walked) (left : Field → List ℕ)
      (in_plain : (go Text).stop ≡ ended g e → TextLeft table seven p false g e (go Text).marks rest (left Text))
      (in_clear_lem : (started : Bool) → (go (dle_field started)).stop ≡ ended g e → ClearLeft started g e (go (dle_field started)).marks rest (left (dle_field started)))
      (in_block : (started : Bool) → (go (block_field started)).stop ≡ ended g e
      → BlockLeft table seven p started g e (go (block_field started)).marks rest (left (block_field started))) where
    -- a DLE of the header or at the start
    dle_step : (started t : Bool) → seven ≡ t → OfSign table dle (character seven b)
        → (onward go (block_field started) at (dle_judged started t)).stop ≡ ended g e
        → BlockLeft table seven p started g e (onward go (block_field started) at (dle_judged started t)).marks (b ∷ rest)
        (b ∷ unfilled_behind left rest (dle_judged started t))
    dle_step true true q o h = absurd (not_ended h)
    dle_step false true q o h = absurd (not_ended h)
    dle_step true false q o h =
        let t = in_clear_lem true h in
        text_block table seven p shape.HeaderClearText refl (ap (shape_of true) t.ends_in) (ap (λ t. not (t && true)) q) tt
        (kept seven p (carries table seven p r o) t.is_left InnerStart)
    dle_step false false q o h =
        let t = in_clear_lem false h in
        text_block table seven p shape.ClearText refl (ap (shape_of false) t.ends_in) (ap (λ t. not (t && true)) q) tt
        (kept seven p (carries table seven p r o) t.is_left LeftOut)

    block_step : (started : Bool) (s : Sign) → sign_of table (character seven b) ≡ s → OfSign table s (character seven b)
        → (onward go (block_field started) at (judge seven (block_field started) s)).stop ≡ ended g e
        → BlockLeft table seven p started g e (onward go (block_field started) at (judge seven (block_field started) s)).marks (b ∷ rest)
        (cons_if (not (is_fill (block_field started) s (first_sign table seven rest))) b (unfilled_behind left rest (judge seven (block_field started) s)))
    block_step true soh q o h = absurd (not_ended h)
    block_step true stx q o h =
        let t = in_plain h in
        text_block table seven p shape.HeaderText refl (ap (shape_of true) t.ends_in) (plain_carried seven) t.free
        (kept seven p (carries table seven p r o) t.is_left InnerStart)
    block_step true etx q o h = header_end table seven p rest (end_carries table seven p {d = Etx} r o h) h
    block_step true dle q o h = dle_step true seven refl o h
    block_step true syn q o h = fill-byte table seven p (carries table seven p r o) (in_block true h)
    block_step true etb q o h = header_end table seven p rest (end_carries table seven p {d = Etb} r o h) h
    block_step true us q o h = header_end table seven p rest (end_carries table seven p {d = Us} r o h) h
    block_step true other q o h = header-byte table seven p (carries table seven p r refl) (in_block true h) (other_free table seven b q)
    block_step false soh q o h = soh_before table seven p (carries table seven p r o) (in_block true h)
    block_step false stx q o h =
        let t = in_plain h in
        text_block table seven p shape.Text refl (ap (shape_of false) t.ends_in) (plain_carried seven) t.free
        (kept seven p (carries table seven p r o) t.is_left LeftOut)
    block_step false etx q o h = absurd (not_ended h)
    block_step false dle q o h = dle_step false seven refl o h
    block_step false syn q o h = fill-byte table seven p (carries table seven p r o) (in_block false h)
    block_step false etb q o h = absurd (not_ended h)
    block_step false us q o h = absurd (not_ended h)
    block_step false other q o h = absurd (not_ended h)

  -- from the start on, or from behind SOH on
  pub block_left : {g : Field} {e : EndSign} (started : Bool) (line : List ℕ) → Resent seven p line → (at : ℕ)
      → (walk table seven line at (block_field started)).stop ≡ ended g e
      → BlockLeft table seven p started g e (walk table seven line at (block_field started)).marks line (unfilled table seven line (block_field started))
  block_left true [] r at h = absurd (not_ended h)
  block_left false [] r at h = absurd (not_ended h)
  block_left started (b ∷ rest) r at h =
      block_step b rest r.0 at (walk table seven rest (at + 1)) (unfilled table seven rest) (text-left table seven p rest r.1 (at + 1) plain_text)
      (λ started. clear_left started rest r.1 (at + 1)) (λ started. block_left started rest r.1 (at + 1)) started
      (sign_of table (character seven b)) refl (of_sign table (character seven b)) h
