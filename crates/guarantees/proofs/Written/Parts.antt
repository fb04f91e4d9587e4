-- What the marks select of a written line: header, text, counted bytes, inner start and check are those that were written.
-- Assumes nothing.
use mathlib.Core.Path.{◌≡◌, refl, sym, ap, ap₂, ◌∙◌}
use Prim.Native.Nat.{ℕ, suc}
use native.Mathlib.Omega.{arith}
use mathlib.Core.Bool.{Bool, true, false, cond, not}
use mathlib.Core.List.{List, [], ◌∷◌, ◌++◌, map, append-nil}
use lib.Dec.{eqb}
use lib.ListN.{length}
use lib.Seq.{drop_at}
use borrow.Author.Tests.{ne_eqb}
use Rattle.bits.specs.Differences.{cons_if}
use Rattle.block.specs.declared.Parity.{Parity}
use Rattle.block.specs.declared.Shape.{Shape}
use Rattle.block.specs.declared.Shape.TheVariants as shape
use Rattle.block.specs.declared.EndSign.{EndSign}
use Rattle.block.specs.declared.Mark.{Mark}
use Rattle.block.specs.declared.Mark.TheVariants.{LeftOut, HeaderByte, TextByte, InnerStart, End}
use Rattle.block.specs.declared.Field.{Field}
use Rattle.block.specs.Signs.{CodeTable, end_byte}
use Rattle.block.specs.Characters.{character, sent}
use Rattle.block.specs.Marks.{is_counted, is_header, is_text, is_inner, sift, check_bytes, has_inner, shape_of}
use Rattle.block.specs.Write.{is_clear, start_signs, inner_signs, is_empty}
use Rattle.guarantees.proofs.Written.Walk.{Marked, marks_of, characters_of, marked, marked_twice, marked_clear, Walks, end, step}
use Rattle.guarantees.proofs.Written.Line.{marked_text, marked_line, end_field}

-- ---- the characters whose mark a test takes

abbrev pub pick : (Mark → Bool) → List Marked → List ℕ
pick is [] = []
pick is (x ∷ xs) = cons_if (is x.mark) x.value (pick is xs)

cons_if-append : (t : Bool) (b : ℕ) (bs cs : List ℕ) → cons_if t b (bs ++ cs) ≡ cons_if t b bs ++ cs
cons_if-append true b bs cs = refl
cons_if-append false b bs cs = refl

module _ (table : CodeTable) (is : Mark → Bool) where
  pick-append : (xs ys : List Marked) → pick is (xs ++ ys) ≡ pick is xs ++ pick is ys
  pick-append [] ys = refl
  pick-append (x ∷ xs) ys = ap (cons_if (is x.mark) x.value) (pick-append xs ys) ∙ cons_if-append (is x.mark) x.value (pick is xs) (pick is ys)

  pick-marked : (k : Mark) (bs : List ℕ) → pick is (marked k bs) ≡ cond (is k) bs []
  pick-marked k bs = go (is k) refl bs
    where
      go : (t : Bool) → is k ≡ t → (cs : List ℕ) → pick is (marked k cs) ≡ cond t cs []
      go true e [] = refl
      go true e (c ∷ cs) = ap₂ (λ t z. cons_if t c z) e (go true e cs)
      go false e [] = refl
      go false e (c ∷ cs) = ap₂ (λ t z. cons_if t c z) e (go false e cs)

  -- a test that takes no byte that is left out
  module _ (none : is LeftOut ≡ false) where
    pick_clear : (bs : List ℕ) → pick is (marked_clear table bs) ≡ pick is (marked TextByte bs)
    pick_clear [] = refl
    pick_clear (b ∷ bs) = go (eqb b table.DLE) (ap (cons_if (is TextByte) b) (pick_clear bs))
      where
        go : (t : Bool) → cons_if (is TextByte) b (pick is (marked_clear table bs)) ≡ cons_if (is TextByte) b (pick is (marked TextByte bs))
            → pick is (marked_twice t b (marked_clear table bs)) ≡ cons_if (is TextByte) b (pick is (marked TextByte bs))
        go true h = ap (λ t. cons_if t b (cons_if (is TextByte) b (pick is (marked_clear table bs)))) none ∙ h
        go false h = h

    pick-text : (clear : Bool) (e : EndSign) (body : List ℕ)
        → pick is (marked_text table clear e body) ≡ cond (is TextByte) body [] ++ cons_if (is End) (end_byte table e) []
    pick-text true e body = rw (pick-append, none, pick_clear body, pick-marked)
    pick-text false e body = rw (pick-append, pick-marked)

    pick-line : (s : Shape) (e : EndSign) (head body : List ℕ)
        → pick is (marked_line table s e head body)
        ≡ cond (is HeaderByte) head [] ++ (cond (is InnerStart) (inner_signs table s) [] ++ (cond (is TextByte) body [] ++ cons_if (is End) (end_byte table e) []))
    pick-line s e head body =
        rw (
          pick-append (marked LeftOut (start_signs table s)),
          pick-append (marked HeaderByte head),
          pick-append (marked InnerStart (inner_signs table s)),
          pick-marked LeftOut (start_signs table s),
          none,
          pick-marked HeaderByte head,
          pick-marked InnerStart (inner_signs table s),
          pick-text (is_clear s) e body,
        )

-- ---- the parts of a written line

has_inner_lem : (xs : List Marked) → has_inner (marks_of xs) ≡ not (is_empty (pick is_inner xs))
has_inner_lem [] = refl
has_inner_lem (x ∷ xs) = go (is_inner x.mark) (has_inner_lem xs)
  where
    go : (t : Bool) → has_inner (marks_of xs) ≡ not (is_empty (pick is_inner xs))
        → cond t true (has_inner (marks_of xs)) ≡ not (is_empty (cons_if t x.value (pick is_inner xs)))
    go true h = sym (ap not (ne_eqb (length (x.value ∷ pick is_inner xs)) 0 (λ q. omega arith)))
    go false h = h

module _ (table : CodeTable) (s : Shape) (e : EndSign) (head body : List ℕ) where
  pub header_picked : pick is_header (marked_line table s e head body) ≡ head
  header_picked = pick-line table is_header refl s e head body ∙ append-nil head

  pub text_picked : pick is_text (marked_line table s e head body) ≡ body
  text_picked = pick-line table is_text refl s e head body ∙ append-nil body

  pub counted_picked : pick is_counted (marked_line table s e head body) ≡ head ++ (inner_signs table s ++ (body ++ end_byte table e ∷ []))
  counted_picked = pick-line table is_counted refl s e head body

  inner_picked : pick is_inner (marked_line table s e head body) ≡ inner_signs table s
  inner_picked = pick-line table is_inner refl s e head body ∙ append-nil (inner_signs table s)

  pub shape_back : shape_of (has_inner (marks_of (marked_line table s e head body))) (end_field s) ≡ s
  shape_back = ap (λ t. shape_of t (end_field s)) (has_inner_lem (marked_line table s e head body) ∙ ap (λ z. not (is_empty z)) inner_picked) ∙ go s
    where
      go : (r : Shape) → shape_of (not (is_empty (inner_signs table r))) (end_field r) ≡ r
      go shape.Header = refl
      go shape.Text = refl
      go shape.HeaderText = refl
      go shape.ClearText = refl
      go shape.HeaderClearText = refl

-- ---- what is read off the marks

pub length-sent : (send : ℕ → ℕ) (xs : List Marked) → length (map send (characters_of xs)) ≡ length (marks_of xs)
length-sent send [] = refl
length-sent send (x ∷ xs) = ap suc (length-sent send xs)

module _ (send : ℕ → ℕ) (rest : List ℕ) where
  pub sift-sent : (is : Mark → Bool) (xs : List Marked) → sift is (marks_of xs) (map send (characters_of xs) ++ rest) ≡ map send (pick is xs)
  sift-sent is [] = refl
  sift-sent is (x ∷ xs) = go (is x.mark) (sift-sent is xs)
    where
      go : (t : Bool) → sift is (marks_of xs) (map send (characters_of xs) ++ rest) ≡ map send (pick is xs)
          → cons_if t (send x.value) (sift is (marks_of xs) (map send (characters_of xs) ++ rest)) ≡ map send (cons_if t x.value (pick is xs))
      go true h = ap (λ z. send x.value ∷ z) h
      go false h = h

  pub check_bytes_lem : (xs : List Marked) → check_bytes (marks_of xs) (map send (characters_of xs) ++ rest) ≡ rest
  check_bytes_lem xs = drop_at (map send (characters_of xs)) rest (length (marks_of xs)) (length-sent send xs)

-- the characters of a line that the walk takes come back
pub characters_back : (table : CodeTable) (is : Mark → Bool) {seven : Bool} {p : Parity} {f g : Field} {e : EndSign} {xs : List Marked} → Walks table seven p f xs g e
    → map (character seven) (map (sent seven p) (pick is xs)) ≡ pick is xs
characters_back table is {seven = seven} {p = p} (end {c = c} b j) = go (is End)
  where
    go : (t : Bool) → map (character seven) (map (sent seven p) (cons_if t c [])) ≡ cons_if t c []
    go true = ap (λ z. z ∷ []) b
    go false = refl
characters_back table is {seven = seven} {p = p} (step {k = k} {c = c} {xs = xs} b j w) = go (is k) (characters_back table is w)
  where
    go : (t : Bool) → map (character seven) (map (sent seven p) (pick is xs)) ≡ pick is xs
        → map (character seven) (map (sent seven p) (cons_if t c (pick is xs))) ≡ cons_if t c (pick is xs)
    go true h = ap₂ (λ y z. y ∷ z) b h
    go false h = h
