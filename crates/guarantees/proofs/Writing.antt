-- The questions of writing, both ways: what parts have passed where a line is written of them, and that parts which pass are written.
-- Assumes nothing.
use mathlib.Core.Path.{◌≡◌, refl, sym, ap, ap₂, ◌∙◌}
use Prim.Native.Nat.{ℕ, ◌+◌, ◌≤◌}
use native.Mathlib.Omega.{arith}
use mathlib.Core.Bool.{Bool, true, cond, not, ◌&&◌, ◌||◌, and-eq-true_iff}
use mathlib.Core.List.{List, [], ◌∷◌}
use lib.Dec.{leb}
use lib.ListN.{length}
use borrow.Author.Tests.{leb-true, le-leb}
use Rattle.bits.proofs.Tests.{ask-passed}
use Rattle.bits.specs.Differences.{Each}
use Rattle.block.specs.declared.Method.{Method}
use Rattle.block.specs.declared.Parity.{Parity}
use Rattle.block.specs.declared.Shape.{Shape}
use Rattle.block.specs.declared.EndSign.{EndSign}
use Rattle.block.specs.Signs.{CodeTable}
use Rattle.block.specs.Characters.{is_seven, carries}
use Rattle.block.specs.Write.{is_clear, has_header, has_text, is_free, WriteAnswer, written, refusal, ask, ask_free, is_empty, counted_length, line_of, write_block}
use Rattle.block.specs.Limits.{counted_limit}

-- no byte of a part is a sign, and under methods 1, 2 and 7 each is below 80
abbrev pub Free : CodeTable → Bool → List ℕ → Type 0
Free table seven = Each (λ c. is_free table seven c ≡ true)

-- questions 1, 4, 2 and 3, under methods 1, 2 and 7 (`seven`) or 3 and 4
pub record Allowed (table : CodeTable) (seven : Bool) (s : Shape) (head body : List ℕ) : Type 0 where
  pub carried : not (seven && is_clear s) ≡ true
  pub header-fits : has_header s || is_empty head ≡ true
  pub text-fits : has_text s || is_empty body ≡ true
  pub header_free : Free table seven head
  pub text_free : Free table seven (cond (is_clear s) [] body)

-- 58 and these, and 5 and 6
pub record Writes (table : CodeTable) (m : Method) (p : Parity) (s : Shape) (e : EndSign) (head body line : List ℕ) (room : ℕ) : Type 0 where
  pub code_carried : carries table m ≡ true
  pub allowed : Allowed table (is_seven m) s head body
  pub count : counted_length table s head body ≤ counted_limit
  pub fits : length line ≤ room
  pub line_is : line ≡ line_of table m p s e head body

-- ---- passed, where a line is written

apart : {n v : ℕ} {line : List ℕ} → refusal n v ≡ written line → ⊥
apart {n = n} {v = v} {line = line} e = let z : ◌≡◌ {A = ℕ} 0 1 = cc in omega arith

asked_free : (table : CodeTable) (seven : Bool) (n : ℕ) (bs : List ℕ) (at : ℕ) (next : WriteAnswer) {line : List ℕ} → ask_free table seven n bs at next ≡ written line
    → Free table seven bs × (next ≡ written line)
asked_free table seven n [] at next e = (tt, e)
asked_free table seven n (b ∷ bs) at next e =
    let a = ask-passed (is_free table seven b) apart e in
    let r = asked_free table seven n bs (at + 1) next a.1 in
    ((a.0, r.0), r.1)

pub passed : (table : CodeTable) (m : Method) (p : Parity) (s : Shape) (e : EndSign) (head body line : List ℕ) (room : ℕ) → write_block table m p s e head body room ≡ written line
    → Writes table m p s e head body line room
unfolding write_block
passed table m p s e head body line room w =
    let z = ask-passed (carries table m) apart w in
    let a = ask-passed (not (is_seven m && is_clear s)) apart z.1 in
    let b = ask-passed ((has_header s || is_empty head) && (has_text s || is_empty body)) apart a.1 in
    let fits = (and-eq-true_iff (has_header s || is_empty head) (has_text s || is_empty body)).0 b.0 in
    let c = asked_free table (is_seven m) 2 head 0 _ b.1 in
    let d = asked_free table (is_seven m) 3 (cond (is_clear s) [] body) 0 _ c.1 in
    let f = ask-passed (leb (counted_length table s head body) counted_limit) apart d.1 in
    let g = ask-passed (leb (length (line_of table m p s e head body)) room) apart f.1 in
    let q : line_of table m p s e head body ≡ line = cc g.1 in
    record {
      code_carried = z.0;
      allowed = record { carried = a.0; header-fits = fits.0; text-fits = fits.1; header_free = c.0; text_free = d.0 };
      count = leb-true _ _ f.0;
      fits = rw (← q) (leb-true _ _ g.0);
      line_is = sym q;
    }

-- ---- written, where they pass

ask_holds : {holds : Bool} (n v : ℕ) (next : WriteAnswer) → holds ≡ true → ask holds n v next ≡ next
ask_holds n v next h = ap (λ t. ask t n v next) h

free_passes : (table : CodeTable) (seven : Bool) (n : ℕ) (bs : List ℕ) (at : ℕ) (next : WriteAnswer) → Free table seven bs → ask_free table seven n bs at next ≡ next
free_passes table seven n [] at next f = refl
free_passes table seven n (b ∷ bs) at next f = ask_holds n at (ask_free table seven n bs (at + 1) next) f.0 ∙ free_passes table seven n bs (at + 1) next f.1

pub passes : (table : CodeTable) (m : Method) (p : Parity) (s : Shape) (e : EndSign) (head body : List ℕ) (room : ℕ) → carries table m ≡ true → Allowed table (is_seven m) s head body → counted_length table s head body ≤ counted_limit
    → length (line_of table m p s e head body) ≤ room → write_block table m p s e head body room ≡ written (line_of table m p s e head body)
unfolding write_block
passes table m p s e head body room c a few fits =
    ask_holds 58 0 _ c ∙ ask_holds 1 0 _ a.carried ∙ ask_holds 4 0 _ (ap₂ ◌&&◌ a.header-fits a.text-fits)
    ∙ free_passes table (is_seven m) 2 head 0 _ a.header_free ∙ free_passes table (is_seven m) 3 (cond (is_clear s) [] body) 0 _ a.text_free
    ∙ ask_holds 5 0 _ (le-leb _ _ few) ∙ ask_holds 6 (length (line_of table m p s e head body)) _ (le-leb _ _ fits)
