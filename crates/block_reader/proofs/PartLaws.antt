-- The segments of a framed line, and the number of a check to which they are added one after the other. Assumes nothing.
use mathlib.Core.Path.{◌≡◌, sym, ap, ap₂, ◌∙◌}
use Prim.Native.Nat.{ℕ, ◌-◌}
use mathlib.Core.Bool.{Bool, false}
use mathlib.Core.List.{List, [], ◌∷◌, ◌++◌}
use lib.ListN.{length, get_or, take, drop}
use lib.Seq.{slice}
use Rattle.block.specs.Signs.{CodeTable}
use Rattle.block.specs.Write.{is_clear}
use Rattle.block_framing.specs.declared.Segments.{Segments}
use Rattle.block_framing.specs.Framings.{kept_bytes, header_in, text_in, counted_in, Ordered}
use Rattle.block_framing.proofs.Reading.{part_slice}
use Rattle.block_segments.specs.Segment.{segment_bytes}
use Rattle.block_segments.proofs.KeptLaws.{segment_kept}
use Rattle.block_reader.specs.Counts.{CountsKept}

module _ (t : CodeTable) (seven : Bool) (f : Segments) (line : List ℕ) (o : Ordered f (length line)) where
  module _ (counts : CountsKept t seven f line) where
    pub header_is : segment_bytes t false seven f.header (take (f.inner - f.head) (drop f.head line)) ≡ header_in t seven f line
    unfolding header_in
    header_is =
        let e = ap (kept_bytes t false seven false) (part_slice f.head f.inner line o.header) in
        segment_kept t false seven f.header (take (f.inner - f.head) (drop f.head line)) (counts.header ∙ ap length (sym e)) ∙ e

    pub text_is : {clear : Bool} → clear ≡ is_clear f.shape → segment_bytes t clear seven f.text (take (f.tail - f.body) (drop f.body line)) ≡ text_in t seven f line
    unfolding text_in
    text_is {clear} c =
        let e = ap₂ (λ x l. kept_bytes t x seven false l) c (part_slice f.body f.tail line o.text) in
        segment_kept t clear seven f.text (take (f.tail - f.body) (drop f.body line)) (counts.text ∙ ap length (sym e)) ∙ e

  -- the counted bytes added one segment after the other
  pub folded : (fold : ℕ → List ℕ → ℕ) → ((a : ℕ) (xs ys : List ℕ) → fold a (xs ++ ys) ≡ fold (fold a xs) ys)
      → (start : ℕ) {begin header signs text r : ℕ} {hs ts : List ℕ} → begin ≡ start
      → hs ≡ header_in t seven f line → header ≡ fold begin hs
      → signs ≡ fold header (take (f.body - f.inner) (drop f.inner line))
      → ts ≡ text_in t seven f line → text ≡ fold signs ts
      → r ≡ fold text (get_or line (f.after - 1) 0 ∷ []) → r ≡ fold start (counted_in t seven f line)
  unfolding counted_in
  folded fold fold-append start {hs = hs} {ts = ts} b h h' s u u' e =
      let last = get_or line (f.after - 1) 0 ∷ [] in
      let is = slice f.inner f.body line in
      let header = header_in t seven f line in
      let text = text_in t seven f line in
      let first = h' ∙ ap₂ fold b h in
      let second = s ∙ ap₂ fold first (part_slice f.inner f.body line o.inner) in
      e ∙ ap (λ a. fold a last) (u' ∙ ap₂ fold second u)
      ∙ sym (fold-append start header (is ++ (text ++ last)) ∙ fold-append (fold start header) is (text ++ last) ∙ fold-append (fold (fold start header) is) text last)
