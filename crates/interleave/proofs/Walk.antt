-- The loops go over the columns of a line, and in each over its rows: what is stored on the way. Assumes nothing.
use Rattle.std.proofs.Common.{◌≡◌, ℕ, suc, ◌+◌, ◌-◌, ◌*◌, ◌<◌, ◌≤◌, ◌==◌, Bool, true, false, nat_lt, ltb-true, ltb-false, List, ◌++◌, length, drop, get_or, set, arith, ap, ◌∙◌, sym, refl, drop-cons, length-set}
use Rattle.std.proofs.lemmas.List.{ext_get_or, get_or-set_same, get_or-set_other, get_or-append_right, get_or_append_left, get_or-drop, drop_all, length-append, length-drop}
use Rattle.std.proofs.lemmas.List.Edits.{sets, sets-eq}
use borrow.Author.Tests.{eqb-true, eqb-false}
use Rattle.interleave.specs.Interleave.{interleave, deinterleave, place}
use Rattle.interleave.specs.Steps.{size, start, Sent, Returned}
use Rattle.interleave.proofs.Starts.{start-suc, start-end, start-mono, inside}
use Rattle.interleave.proofs.Places.{place-within, place-apart, place-of}
use Rattle.interleave.proofs.Inverse.{length-interleave, length-deinterleave, get_or-interleave, get_or-deinterleave}

-- ---- row r of column c, which begins at place k

module _ (d c k n r : ℕ) (h : c < d) (begins : k ≡ start d n c) (s : r < size d n c) where
  pub byte_inside : c + r * d < n
  byte_inside = inside d n (omega arith) c r h s

  pub place_inside : k + r < n
  place_inside = omega (arith, start-suc d n (omega arith) c, start-mono d n (omega arith) (suc c) d (omega arith), start-end d n (omega arith))

  row_place : place d n (c + r * d) ≡ k + r
  row_place = place-of d n (omega arith) c r h s ∙ ap (λ x. x + r) (sym begins)

module _ (d c k r : ℕ) (text : List ℕ) (h : c < d) (begins : k ≡ start d (length text) c) (s : r < size d (length text) c) where
  -- its byte goes to the line
  pub sent_next : (before after : List ℕ) → Sent d text before after (k + r)
      → Sent d text before (set after (k + r) (get_or text (c + r * d) 0)) (k + (r + 1))
  sent_next before after z =
      let line = interleave d text in
      let i = c + r * d in
      let p = k + r in
      let byte : get_or line p 0 ≡ get_or text i 0 = ap (λ x. get_or line x 0) (sym (row_place d c k (length text) r h begins s)) ∙ get_or-interleave d text i (omega arith) (byte_inside d c k (length text) r h begins s) in
      let j : p < length line = omega (arith, length-interleave d text (omega arith), place_inside d c k (length text) r h begins s) in
      let e : k + (r + 1) ≡ suc p = omega arith in
      record {
        same = length-set after p (get_or text i 0) ∙ z.same;
        left =
            ap (λ x. sets (set after p (get_or text i 0)) x (drop x line)) e
            ∙ ap (λ b. sets (set after p b) (suc p) (drop (suc p) line)) (sym byte)
            ∙ sym (ap (sets after p) (drop-cons line p 0 j)) ∙ z.left;
      }

module _ (d c k r : ℕ) (line : List ℕ) (h : c < d) (begins : k ≡ start d (length line) c) (s : r < size d (length line) c) where
  module _ (before after : List ℕ) (room : length line ≤ length after) (z : Returned d line before after (k + r)) where
    -- the bytes from the places up to k + r
    stored-next : (j : ℕ) → j < length line → place d (length line) j < k + (r + 1)
        → get_or (set after (c + r * d) (get_or line (k + r) 0)) j 0 ≡ get_or line (place d (length line) j) 0
    stored-next j a b = go (j == c + r * d) refl
      where
        l : c + r * d < length line
        l = byte_inside d c k (length line) r h begins s

        there : place d (length line) (c + r * d) ≡ k + r
        there = row_place d c k (length line) r h begins s

        go : (t : Bool) → (j == c + r * d) ≡ t → get_or (set after (c + r * d) (get_or line (k + r) 0)) j 0 ≡ get_or line (place d (length line) j) 0
        go true t =
            let e = eqb-true j (c + r * d) t in
            ap (λ x. get_or (set after (c + r * d) (get_or line (k + r) 0)) x 0) e
            ∙ get_or-set_same after (c + r * d) (get_or line (k + r) 0) 0 (omega (arith, l))
            ∙ ap (λ x. get_or line x 0) (sym there ∙ ap (place d (length line)) (sym e))
        go false t =
            let ne = eqb-false j (c + r * d) t in
            let other : place d (length line) j ≡ k + r → ⊥ = λ e. ne (place-apart d (length line) (omega arith) j (c + r * d) a l (e ∙ sym there)) in
            get_or-set_other after (c + r * d) j (get_or line (k + r) 0) 0 ne ∙ z.stored j a (omega arith)

    -- its byte goes back to the text
    pub returned_next : Returned d line before (set after (c + r * d) (get_or line (k + r) 0)) (k + (r + 1))
    returned_next =
        record {
          same = length-set after (c + r * d) (get_or line (k + r) 0) ∙ z.same;
          stored = stored-next;
          kept = λ j a. get_or-set_other after (c + r * d) j (get_or line (k + r) 0) 0 (λ e. omega (arith, byte_inside d c k (length line) r h begins s)) ∙ z.kept j a;
        }

-- ---- all columns

pub sent_all : (d : ℕ) (text before after : List ℕ) → 1 ≤ d → length text ≤ length before → Sent d text before after (length text)
    → after ≡ interleave d text ++ drop (length text) before
sent_all d text before after h room s =
    let line = interleave d text in
    let n : length line ≡ length text = length-interleave d text h in
    let e : 0 + length line ≡ length text = omega arith in
    sym (ap (sets after (length text)) (drop_all (length text) line (omega arith))) ∙ s.left ∙ sets-eq line before 0 (omega arith) ∙ ap (λ x. line ++ drop x before) e

pub returned_all : (d : ℕ) (line before after : List ℕ) → 1 ≤ d → length line ≤ length before → Returned d line before after (length line)
    → after ≡ deinterleave d line ++ drop (length line) before
returned_all d line before after h room s = ext_get_or 0 after (text ++ drop n before) sizes (λ i a. go i (nat_lt i n) refl)
  where
    text : List ℕ
    text = deinterleave d line

    n : ℕ
    n = length line

    long : length text ≡ n
    long = length-deinterleave d line

    sizes : length after ≡ length (text ++ drop n before)
    sizes = omega (arith, s.same, length-append text (drop n before), length-drop n before, long)

    go : (i : ℕ) → (t : Bool) → nat_lt i n ≡ t → get_or after i 0 ≡ get_or (text ++ drop n before) i 0
    go i true t =
        let a : i < n = ltb-true i n t in
        s.stored i a (place-within d n h i a)
        ∙ sym (get_or-deinterleave d line i a) ∙ sym (get_or_append_left text (drop n before) 0 i (omega (arith, long)))
    go i false t =
        let a : n ≤ i = ltb-false i n t in
        let f : n + (i - n) ≡ i = omega arith in
        s.kept i a ∙ ap (λ x. get_or before x 0) (sym f) ∙ sym (get_or-drop n before (i - n) 0)
        ∙ sym (get_or-append_right text (drop n before) n i 0 long a)
