-- The questions on the parts in turn: each by what code found, and what parts that pass have passed. Assumes nothing.
use mathlib.Core.Path.{◌≡◌, sym, ap, ◌∙◌}
use Prim.Native.Nat.{ℕ, ◌+◌, ◌≤◌}
use native.Mathlib.Omega.{arith}
use mathlib.Core.Bool.{Bool, true, false, cond, not, ◌&&◌, ◌||◌}
use mathlib.Core.List.{List, [], ◌∷◌}
use lib.Dec.{leb, ltb}
use lib.ListN.{length}
use borrow.Author.Tests.{lt-ltb, le-ltb, leb-true}
use Rattle.bits.proofs.Tests.{ask-passed}
use Rattle.block.specs.declared.Shape.{Shape}
use Rattle.block.specs.Signs.{CodeTable}
use Rattle.block.specs.Scan.{first_failing}
use Rattle.block.specs.Write.{is_clear, has_header, has_text, inner_signs, is_empty, is_free, counted_length, WriteAnswer, written, refusal, ask, ask_free}
use Rattle.block.specs.Limits.{counted_limit}
use Rattle.block_parts.specs.Parts.{ask_parts}

-- ---- the question of every byte, by the first that is not free

asked_free : (t : CodeTable) (seven : Bool) (number : ℕ) (next : WriteAnswer) (part : List ℕ) (at : ℕ)
    → ask_free t seven number part at next
    ≡ cond (ltb (first_failing (is_free t seven) at part) (at + length part)) (refusal number (first_failing (is_free t seven) at part)) next
unfolding first_failing
asked_free t seven number next [] at = sym (ap (λ x. cond x (refusal number at) next) (le-ltb at (at + 0) (omega arith)))
asked_free t seven number next (b ∷ rest) at = go (is_free t seven b) (asked_free t seven number next rest (at + 1))
  where
    first : ℕ
    first = first_failing (is_free t seven) (at + 1) rest

    go : (free : Bool) → ask_free t seven number rest (at + 1) next ≡ cond (ltb first (at + 1 + length rest)) (refusal number first) next
        → cond free (ask_free t seven number rest (at + 1) next) (refusal number at)
        ≡ cond (ltb (cond free first at) (at + length (b ∷ rest))) (refusal number (cond free first at)) next
    go true h =
        let e : at + 1 + length rest ≡ at + length (b ∷ rest) = omega arith in
        h ∙ ap (λ n. cond (ltb first n) (refusal number first) next) e
    go false h = sym (ap (λ x. cond x (refusal number at) next) (lt-ltb at (at + length (b ∷ rest)) (omega arith)))

-- ---- in turn

module _ (t : CodeTable) (seven : Bool) (s : Shape) (head body : List ℕ) (next : WriteAnswer) where
  abbrev pub count : WriteAnswer
  count = ask (leb (counted_length t s head body) counted_limit) 5 0 next

  abbrev pub text : WriteAnswer
  text = ask_free t seven 3 (cond (is_clear s) [] body) 0 count

  abbrev pub header : WriteAnswer
  header = ask_free t seven 2 head 0 text

  abbrev fit : Bool
  fit = (has_header s || is_empty head) && (has_text s || is_empty body)

  abbrev pub parts : WriteAnswer
  parts = ask fit 4 0 header

  pub ask_carried : {clear yes : Bool} → clear ≡ is_clear s → seven && clear ≡ yes → ask_parts t seven s head body next ≡ ask (not yes) 1 0 parts
  unfolding ask_parts
  ask_carried w h = ap (λ x. ask (not x) 1 0 parts) (sym (ap (λ u. seven && u) w) ∙ h)

  pub ask-fit : {r yes : Bool} → r ≡ fit → r ≡ yes → parts ≡ ask yes 4 0 header
  ask-fit q h = ap (λ x. ask x 4 0 header) (sym q ∙ h)

  pub ask-header : {at : ℕ} {yes : Bool} → at ≡ first_failing (is_free t seven) 0 head → ltb at (length head) ≡ yes → header ≡ cond yes (refusal 2 at) text
  ask-header {at} q h =
      let e : 0 + length head ≡ length head = omega arith in
      asked_free t seven 2 text head 0
      ∙ ap (λ n. cond (ltb n (0 + length head)) (refusal 2 n) text) (sym q)
      ∙ ap (λ n. cond (ltb at n) (refusal 2 at) text) e ∙ ap (λ x. cond x (refusal 2 at) text) h

  pub ask-text : {clear yes : Bool} {at : ℕ} → clear ≡ is_clear s → at ≡ cond clear (length body) (first_failing (is_free t seven) 0 body) → ltb at (length body) ≡ yes
      → text ≡ cond yes (refusal 3 at) count
  ask-text {clear} {yes} {at} w q h = ap (λ u. ask_free t seven 3 (cond u [] body) 0 count) (sym w) ∙ go clear q
    where
      go : (u : Bool) → at ≡ cond u (length body) (first_failing (is_free t seven) 0 body) → ask_free t seven 3 (cond u [] body) 0 count ≡ cond yes (refusal 3 at) count
      go true e = ap (λ v. cond v (refusal 3 at) count) (sym (le-ltb at (length body) (omega arith)) ∙ h)
      go false e =
          let z : 0 + length body ≡ length body = omega arith in
          asked_free t seven 3 count body 0
          ∙ ap (λ n. cond (ltb n (0 + length body)) (refusal 3 n) count) (sym e)
          ∙ ap (λ n. cond (ltb at n) (refusal 3 at) count) z ∙ ap (λ v. cond v (refusal 3 at) count) h

  pub ask-count : {r yes : Bool} → r ≡ leb (length head + length (inner_signs t s) + length body + 1) counted_limit → r ≡ yes → count ≡ ask yes 5 0 next
  unfolding counted_length
  ask-count q h = ap (λ x. ask x 5 0 next) (sym q ∙ h)

  -- behind the questions that are passed, the rule's answer is that of the next

  pub to_header : {clear r : Bool} → clear ≡ is_clear s → seven && clear ≡ false → r ≡ fit → r ≡ true
      → ask_parts t seven s head body next ≡ header
  to_header w h q f = ask_carried w h ∙ ask-fit q f

  pub to_text : {clear r : Bool} {at : ℕ} → clear ≡ is_clear s → seven && clear ≡ false → r ≡ fit → r ≡ true
      → at ≡ first_failing (is_free t seven) 0 head → ltb at (length head) ≡ false → ask_parts t seven s head body next ≡ text
  to_text w h q f p l = to_header w h q f ∙ ask-header p l

  pub to_count : {clear r : Bool} {at to : ℕ} → clear ≡ is_clear s → seven && clear ≡ false → r ≡ fit → r ≡ true
      → at ≡ first_failing (is_free t seven) 0 head → ltb at (length head) ≡ false
      → to ≡ cond clear (length body) (first_failing (is_free t seven) 0 body) → ltb to (length body) ≡ false
      → ask_parts t seven s head body next ≡ count
  to_count w h q f p l o m = to_text w h q f p l ∙ ask-text w o m

-- ---- parts that pass are short enough

apart : {n v : ℕ} → refusal n v ≡ written [] → ⊥
apart {n} {v} e = let z : ◌≡◌ {A = ℕ} 0 1 = cc in omega arith

free_passed : (t : CodeTable) (seven : Bool) (number : ℕ) (part : List ℕ) (at : ℕ) {next : WriteAnswer} → ask_free t seven number part at next ≡ written [] → next ≡ written []
free_passed t seven number [] at e = e
free_passed t seven number (b ∷ rest) at e = free_passed t seven number rest (at + 1) (ask-passed (is_free t seven b) apart e).1

pub parts-passed : (t : CodeTable) (seven : Bool) (s : Shape) (head body : List ℕ) → written [] ≡ ask_parts t seven s head body (written [])
    → (length head ≤ counted_limit) × (length body ≤ counted_limit)
unfolding ask_parts counted_length
parts-passed t seven s head body e =
    let a = ask-passed (not (seven && is_clear s)) apart (sym e) in
    let b = ask-passed ((has_header s || is_empty head) && (has_text s || is_empty body)) apart a.1 in
    let c = free_passed t seven 3 (cond (is_clear s) [] body) 0 (free_passed t seven 2 head 0 b.1) in
    let l = leb-true (length head + length (inner_signs t s) + length body + 1) counted_limit (ask-passed (leb (counted_length t s head body) counted_limit) apart c).0 in
    (omega (arith, l), omega (arith, l))
