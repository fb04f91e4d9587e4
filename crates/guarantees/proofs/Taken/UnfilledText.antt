-- From the text on, a line without its fill signs is what the writer sends for the text that is read: plain text as it stands, in
-- clear text each DLE twice and DLE before the end sign. Assumes nothing.
use mathlib.Core.Path.{◌≡◌, refl, sym, ap, ◌∙◌}
use Prim.Native.Nat.{ℕ, ◌+◌}
use native.Mathlib.Omega.{arith}
use mathlib.Core.Bool.{Bool, true, false, cond, not, ◌&&◌}
use mathlib.Core.List.{List, [], ◌∷◌, ◌++◌}
use lib.Dec.{eqb}
use borrow.Author.Tests.{eq-eqb}
use Rattle.bits.specs.Differences.{cons_if}
use Rattle.block.specs.declared.Parity.{Parity}
use Rattle.block.specs.declared.EndSign.{EndSign}
use Rattle.block.specs.declared.EndSign.TheVariants.{Etx, Etb, Us}
use Rattle.block.specs.declared.Mark.{Mark}
use Rattle.block.specs.declared.Mark.TheVariants.{LeftOut, TextByte, End}
use Rattle.block.specs.declared.Field.{Field}
use Rattle.block.specs.declared.Field.TheVariants.{Text, Clear, ClearDle}
use Rattle.block.specs.Signs.{CodeTable, Sign, soh, stx, etx, dle, syn, etb, us, other, sign_of, end_byte, is_syn}
use Rattle.block.specs.Characters.{character, sent}
use Rattle.block.specs.Walk.{ended, refused, Walked, judge, cut, onward, walk}
use Rattle.block.specs.Write.{escaped, is_free}
use Rattle.block.proofs.Tables.{differ, differ_back}
use Rattle.guarantees.specs.Fill.{is_fill, first_sign, unfilled_behind, unfilled}
use Rattle.guarantees.proofs.Taken.Characters.{Resent, OfSign, of_sign, other_free}
use Rattle.guarantees.proofs.Writing.{Free}
use Rattle.guarantees.proofs.Taken.Unfilled.{Carries, Unfilled, unmarked, marked, sent-before, kept}

pub not_ended : {n v : ℕ} {f : Field} {e : EndSign} → refused n v ≡ ended f e → ⊥
not_ended h = let z : ◌≡◌ {A = ℕ} 0 1 = cc in omega arith

-- text and end sign as the writer sends them
abbrev pub text_bytes : CodeTable → Bool → EndSign → List ℕ → List ℕ
text_bytes table clear e body = cond clear (escaped table body ++ table.DLE ∷ end_byte table e ∷ []) (body ++ end_byte table e ∷ [])

module _ (table : CodeTable) (seven : Bool) (p : Parity) where
  pub carries : {b c : ℕ} → sent seven p (character seven b) ≡ b → character seven b ≡ c → Carries seven p b c
  carries r q = record { read = q; written = sym (ap (sent seven p) q) ∙ r }

  -- a line walked over from its text on, up to the end sign e in field g
  pub record TextLeft (clear : Bool) (g : Field) (e : EndSign) (ks : List Mark) (line left : List ℕ) : Type 0 where
    pub body : List ℕ
    pub ends_in : g ≡ cond clear ClearDle Text
    pub is_left : Unfilled seven p ks line left (text_bytes table clear e body) (body ++ end_byte table e ∷ []) [] body false
    pub free : Free table seven (cond clear [] body)

  -- ---- one byte

  -- the byte of the end sign at which the walk stops
  pub end_carries : {f g : Field} {d e : EndSign} {b : ℕ} → sent seven p (character seven b) ≡ b → character seven b ≡ end_byte table d
      → ended f d ≡ ended g e → Carries seven p b (end_byte table e)
  end_carries {d = d} {e = e} r o h = let q : d ≡ e = cc in carries r (o ∙ ap (end_byte table) q)

  plain_end : {g : Field} {d e : EndSign} {b : ℕ} (rest : List ℕ) → Carries seven p b (end_byte table e) → ended Text d ≡ ended g e
      → TextLeft false g e (End ∷ []) (b ∷ rest) (b ∷ rest)
  plain_end rest c h = record { body = []; ends_in = cc; is_left = kept seven p c (unmarked seven p rest) End; free = tt }

  clear_end : {g : Field} {d e : EndSign} {b : ℕ} (rest : List ℕ) → Carries seven p b (end_byte table e) → ended ClearDle d ≡ ended g e
      → TextLeft true g e (End ∷ []) (b ∷ rest) (sent seven p table.DLE ∷ b ∷ rest)
  unfolding escaped
  clear_end rest c h =
      record { body = []; ends_in = cc; is_left = sent-before seven p refl (kept seven p c (unmarked seven p rest) End); free = tt }

  module _ {g : Field} {e : EndSign} {ks : List Mark} {line left : List ℕ} {b c : ℕ} (d : Carries seven p b c) where
    fill-byte : {clear : Bool} → TextLeft clear g e ks line left → TextLeft clear g e (LeftOut ∷ ks) (b ∷ line) left
    fill-byte h = record { body = h.body; ends_in = h.ends_in; is_left = marked seven p d h.is_left LeftOut; free = h.free }

    plain_byte : is_free table seven c ≡ true → TextLeft false g e ks line left → TextLeft false g e (TextByte ∷ ks) (b ∷ line) (b ∷ left)
    plain_byte f h =
        record { body = c ∷ h.body; ends_in = h.ends_in; is_left = kept seven p d h.is_left TextByte; free = (f, h.free) }

    clear_byte : eqb c table.DLE ≡ false → TextLeft true g e ks line left → TextLeft true g e (TextByte ∷ ks) (b ∷ line) (b ∷ left)
    unfolding escaped
    clear_byte n h =
        record { body = c ∷ h.body; ends_in = h.ends_in; is_left = rw n (kept seven p d h.is_left TextByte); free = tt }

  dle_byte : {g : Field} {e : EndSign} {ks : List Mark} {line left : List ℕ} {b : ℕ} → Carries seven p b table.DLE
      → TextLeft true g e ks line left → TextLeft true g e (TextByte ∷ ks) (b ∷ line) (sent seven p table.DLE ∷ b ∷ left)
  unfolding escaped
  dle_byte d h =
      record { body = table.DLE ∷ h.body; ends_in = h.ends_in; is_left = rw (eq-eqb table.DLE table.DLE refl) (sent-before seven p refl (kept seven p d h.is_left TextByte)); free = tt }

  -- ---- the walk

  -- the fields of text, whether it is clear, and whether a DLE stands before
  pub data TextField : Bool → Bool → Field → Type 0 where
    plain_text : TextField false false Text
    clear_text : TextField true false Clear
    behind_dle : TextField true true ClearDle

  -- with that DLE, unless the sign s makes it fill
  abbrev with_dle : Bool → Sign → List ℕ → List ℕ
  with_dle behind s left = cons_if (behind && not (is_syn s)) (sent seven p table.DLE) left

  module _ {g : Field} {e : EndSign} (b : ℕ) (rest : List ℕ) (r : sent seven p (character seven b) ≡ b) (at : ℕ) (go : Field → Walked) (left : Field → List ℕ)
      (ih : (clear behind : Bool) (f : Field) → TextField clear behind f → (go f).stop ≡ ended g e
      → TextLeft clear g e (go f).marks rest (with_dle behind (first_sign table seven rest) (left f))) where
    abbrev c : ℕ
    c = character seven b

    in_plain : (go Text).stop ≡ ended g e → TextLeft false g e (go Text).marks rest (left Text)
    in_plain = ih false false Text plain_text

    in_clear_lem : (go Clear).stop ≡ ended g e → TextLeft true g e (go Clear).marks rest (left Clear)
    in_clear_lem = ih true false Clear clear_text

    text-step : {clear behind : Bool} {f : Field} → TextField clear behind f → (s : Sign) → sign_of table c ≡ s → OfSign table s c
        → (onward go f at (judge seven f s)).stop ≡ ended g e
        → TextLeft clear g e (onward go f at (judge seven f s)).marks (b ∷ rest)
        (with_dle behind s (cons_if (not (is_fill f s (first_sign table seven rest))) b (unfilled_behind left rest (judge seven f s))))
    text-step plain_text soh q o h = absurd (not_ended h)
    text-step plain_text stx q o h = absurd (not_ended h)
    text-step plain_text etx q o h = plain_end rest (end_carries {d = Etx} r o h) h
    text-step plain_text dle q o h = absurd (not_ended h)
    text-step plain_text syn q o h = fill-byte (carries r o) (in_plain h)
    text-step plain_text etb q o h = plain_end rest (end_carries {d = Etb} r o h) h
    text-step plain_text us q o h = plain_end rest (end_carries {d = Us} r o h) h
    text-step plain_text other q o h = plain_byte (carries r refl) (other_free table seven b q) (in_plain h)
    text-step clear_text soh q o h = clear_byte (carries r o) (differ table 0 3 refl refl) (in_clear_lem h)
    text-step clear_text stx q o h = clear_byte (carries r o) (differ table 1 3 refl refl) (in_clear_lem h)
    text-step clear_text etx q o h = clear_byte (carries r o) (differ table 2 3 refl refl) (in_clear_lem h)
    text-step clear_text dle q o h = rw (carries r o).written at (fill-byte (carries r o) (ih true true ClearDle behind_dle h))
    text-step clear_text syn q o h = clear_byte (carries r o) (differ_back table 3 4 refl refl) (in_clear_lem h)
    text-step clear_text etb q o h = clear_byte (carries r o) (differ_back table 3 5 refl refl) (in_clear_lem h)
    text-step clear_text us q o h = clear_byte (carries r o) (differ_back table 3 6 refl refl) (in_clear_lem h)
    text-step clear_text other q o h = clear_byte (carries r refl) o (in_clear_lem h)
    text-step behind_dle soh q o h = absurd (not_ended h)
    text-step behind_dle stx q o h = absurd (not_ended h)
    text-step behind_dle etx q o h = clear_end rest (end_carries {d = Etx} r o h) h
    text-step behind_dle dle q o h = dle_byte (carries r o) (in_clear_lem h)
    text-step behind_dle syn q o h = fill-byte (carries r o) (in_clear_lem h)
    text-step behind_dle etb q o h = clear_end rest (end_carries {d = Etb} r o h) h
    text-step behind_dle us q o h = clear_end rest (end_carries {d = Us} r o h) h
    text-step behind_dle other q o h = absurd (not_ended h)

  no_text : {clear behind : Bool} {f g : Field} {e : EndSign} {A : Type 0} → TextField clear behind f → cut f ≡ ended g e → A
  no_text plain_text h = absurd (not_ended h)
  no_text clear_text h = absurd (not_ended h)
  no_text behind_dle h = absurd (not_ended h)

  pub text-left : {g : Field} {e : EndSign} (line : List ℕ) → Resent seven p line → (at : ℕ) {clear behind : Bool} {f : Field} → TextField clear behind f
      → (walk table seven line at f).stop ≡ ended g e
      → TextLeft clear g e (walk table seven line at f).marks line (with_dle behind (first_sign table seven line) (unfilled table seven line f))
  text-left [] r at t h = no_text t h
  text-left (b ∷ rest) r at t h =
      text-step b rest r.0 at (walk table seven rest (at + 1)) (unfilled table seven rest) (λ c d f. text-left rest r.1 (at + 1)) t (sign_of table (character seven b)) refl
      (of_sign table (character seven b)) h
