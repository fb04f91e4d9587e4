-- The line that is written of a shape's parts, each character with its mark, and the walk over it to its end sign. Assumes nothing.
use mathlib.Core.Path.{◌≡◌, refl, sym, ap, ◌∙◌}
use Prim.Native.Nat.{ℕ}
use native.Mathlib.Omega.{arith}
use mathlib.Core.Bool.{Bool, true, false, cond, true≢false}
use mathlib.Core.List.{List, [], ◌∷◌, ◌++◌, map, map-append}
use lib.Dec.{eqb}
use lib.ListN.{length}
use borrow.Author.Tests.{eqb-true}
use Rattle.block.specs.declared.Method.{Method}
use Rattle.block.specs.declared.Parity.{Parity}
use Rattle.block.specs.declared.Shape.{Shape}
use Rattle.block.specs.declared.Shape.TheVariants as shape
use Rattle.block.specs.declared.EndSign.{EndSign}
use Rattle.block.specs.declared.EndSign.TheVariants.{Etx, Etb, Us}
use Rattle.block.specs.declared.Mark.{Mark}
use Rattle.block.specs.declared.Mark.TheVariants.{LeftOut, HeaderByte, TextByte, InnerStart, End}
use Rattle.block.specs.declared.Field.{Field}
use Rattle.block.specs.declared.Field.TheVariants.{Start, Header, Text, Clear, ClearDle}
use Rattle.block.specs.declared.Judged.TheVariants.{Is, Ends}
use Rattle.block.specs.Signs.{CodeTable, soh, stx, etx, dle, etb, us, end_byte}
use Rattle.block.specs.Characters.{is_seven, sent}
use Rattle.block.specs.Walk.{judge}
use Rattle.block.specs.Write.{is_clear, start_signs, inner_signs, is_empty, escaped, doubled, framed_bytes}
use Rattle.block.proofs.Tables.{value-below, sign_soh, sign_stx, sign_etx, sign_dle, sign_etb, sign_us}
use Rattle.guarantees.proofs.Writing.{Allowed}
use Rattle.guarantees.proofs.Written.Walk.{Marked, sent_as, characters_of, marked, marked_twice, marked_clear, low-back, Walks, end, step, free_walks, clear_walks}

-- text and end sign; in clear text the DLE before the end sign is left out
abbrev pub marked_text : CodeTable → Bool → EndSign → List ℕ → List Marked
marked_text table true e body = marked_clear table body ++ sent_as LeftOut table.DLE ∷ sent_as End (end_byte table e) ∷ []
marked_text table false e body = marked TextByte body ++ sent_as End (end_byte table e) ∷ []

abbrev pub marked_line : CodeTable → Shape → EndSign → List ℕ → List ℕ → List Marked
marked_line table s e head body =
    marked LeftOut (start_signs table s) ++ (marked HeaderByte head ++ (marked InnerStart (inner_signs table s) ++ marked_text table (is_clear s) e body))

-- ---- its characters are those that the rule sends

characters_append : (xs ys : List Marked) → characters_of (xs ++ ys) ≡ characters_of xs ++ characters_of ys
characters_append xs ys = map-append (λ x. x.value) xs ys

characters_marked : (k : Mark) (bs : List ℕ) → characters_of (marked k bs) ≡ bs
characters_marked k [] = refl
characters_marked k (b ∷ bs) = ap (λ z. b ∷ z) (characters_marked k bs)

characters_twice : (t : Bool) (b : ℕ) (xs : List Marked) → characters_of (marked_twice t b xs) ≡ doubled t b (characters_of xs)
characters_twice true b xs = refl
characters_twice false b xs = refl

characters_clear : (table : CodeTable) (bs : List ℕ) → characters_of (marked_clear table bs) ≡ escaped table bs
unfolding escaped
characters_clear table [] = refl
characters_clear table (b ∷ bs) = characters_twice (eqb b table.DLE) b (marked_clear table bs) ∙ ap (doubled (eqb b table.DLE) b) (characters_clear table bs)

characters_text : (table : CodeTable) (clear : Bool) (e : EndSign) (body : List ℕ)
    → characters_of (marked_text table clear e body) ≡ cond clear (escaped table body ++ table.DLE ∷ end_byte table e ∷ []) (body ++ end_byte table e ∷ [])
characters_text table true e body = characters_append (marked_clear table body) _ ∙ ap (λ z. z ++ table.DLE ∷ end_byte table e ∷ []) (characters_clear table body)
characters_text table false e body = characters_append (marked TextByte body) _ ∙ ap (λ z. z ++ end_byte table e ∷ []) (characters_marked TextByte body)

-- characters of one mark, then others
characters_then : (k : Mark) (bs : List ℕ) (xs : List Marked) → characters_of (marked k bs ++ xs) ≡ bs ++ characters_of xs
characters_then k bs xs = characters_append (marked k bs) xs ∙ ap (λ z. z ++ characters_of xs) (characters_marked k bs)

pub framed_bytes_lem : (table : CodeTable) (m : Method) (p : Parity) (s : Shape) (e : EndSign) (head body : List ℕ)
    → framed_bytes table m p s e head body ≡ map (sent (is_seven m) p) (characters_of (marked_line table s e head body))
unfolding framed_bytes
framed_bytes_lem table m p s e head body =
    rw (characters_then LeftOut (start_signs table s), characters_then HeaderByte head, characters_then InnerStart (inner_signs table s), characters_text table)

-- ---- the walk over it

-- the field in which the end sign stands
abbrev pub end_field : Shape → Field
end_field shape.Header = Header
end_field shape.Text = Text
end_field shape.HeaderText = Text
end_field shape.ClearText = ClearDle
end_field shape.HeaderClearText = ClearDle

empty : (bs : List ℕ) → is_empty bs ≡ true → bs ≡ []
empty [] h = refl
empty (b ∷ bs) h = absurd (omega (arith, eqb-true (length (b ∷ bs)) 0 h))

-- in a field where each of the three end signs ends the block
end_walks : (table : CodeTable) {seven : Bool} {p : Parity} {f : Field} (e : EndSign) → judge seven f etx ≡ Ends Etx → judge seven f etb ≡ Ends Etb → judge seven f us ≡ Ends Us
    → Walks table seven p f (sent_as End (end_byte table e) ∷ []) f e
end_walks table {seven = seven} {p = p} {f = f} Etx x b u = end (low-back seven p table.ETX (value-below table 2 refl)) (ap (judge seven f) (sign_etx table) ∙ x)
end_walks table {seven = seven} {p = p} {f = f} Etb x b u = end (low-back seven p table.ETB (value-below table 5 refl)) (ap (judge seven f) (sign_etb table) ∙ b)
end_walks table {seven = seven} {p = p} {f = f} Us x b u = end (low-back seven p table.US (value-below table 6 refl)) (ap (judge seven f) (sign_us table) ∙ u)

-- a sign of the start or the inner start, by the field that follows it
module _ (table : CodeTable) {seven : Bool} {p : Parity} {f g h : Field} {e : EndSign} {k : Mark} {xs : List Marked} (w : Walks table seven p g xs h e) where
  soh_step : judge seven f soh ≡ Is k g → Walks table seven p f (sent_as k table.SOH ∷ xs) h e
  soh_step j = step (low-back seven p table.SOH (value-below table 0 refl)) (ap (judge seven f) (sign_soh table) ∙ j) w

  stx_step : judge seven f stx ≡ Is k g → Walks table seven p f (sent_as k table.STX ∷ xs) h e
  stx_step j = step (low-back seven p table.STX (value-below table 1 refl)) (ap (judge seven f) (sign_stx table) ∙ j) w

  dle_step : judge seven f dle ≡ Is k g → Walks table seven p f (sent_as k table.DLE ∷ xs) h e
  dle_step j = step (low-back seven p table.DLE (value-below table 3 refl)) (ap (judge seven f) (sign_dle table) ∙ j) w

clear_text_walks : (table : CodeTable) {p : Parity} (e : EndSign) (body : List ℕ) → Walks table false p Clear (marked_text table true e body) ClearDle e
clear_text_walks table e body = clear_walks table body (dle_step table (end_walks table e refl refl refl) refl)

pub line_walks : (table : CodeTable) (seven : Bool) (p : Parity) (s : Shape) (e : EndSign) (head body : List ℕ) → Allowed table seven s head body
    → Walks table seven p Start (marked_line table s e head body) (end_field s) e
line_walks table seven p shape.Header e head body c =
    rw (empty body c.text-fits) (soh_step table (free_walks table head refl c.header_free (end_walks table e refl refl refl)) refl)
line_walks table seven p shape.Text e head body c =
    rw (empty head c.header-fits) (stx_step table (free_walks table body refl c.text_free (end_walks table e refl refl refl)) refl)
line_walks table seven p shape.HeaderText e head body c =
    soh_step table
    (free_walks table head refl c.header_free
    (stx_step table (free_walks table body refl c.text_free (end_walks table e refl refl refl)) refl))
    refl
line_walks table true p shape.ClearText e head body c = absurd (true≢false (sym c.carried))
line_walks table true p shape.HeaderClearText e head body c = absurd (true≢false (sym c.carried))
line_walks table false p shape.ClearText e head body c =
    rw (empty head c.header-fits) (dle_step table (stx_step table (clear_text_walks table e body) refl) refl)
line_walks table false p shape.HeaderClearText e head body c =
    soh_step table
    (free_walks table head refl c.header_free (dle_step table (stx_step table (clear_text_walks table e body) refl) refl))
    refl
