-- Lengths: of escaped text and of the line. Assumes nothing.
use mathlib.Core.Path.{◌≡◌, refl, ap, ap₂, ◌∙◌}
use Prim.Native.Nat.{ℕ, ◌+◌, ◌*◌, ◌≤◌}
use native.Mathlib.Omega.{arith}
use mathlib.Core.Bool.{Bool, true, false, cond}
use mathlib.Core.List.{List, [], ◌∷◌, ◌++◌}
use lib.Dec.{eqb}
use lib.ListN.{length, length-append, length-map}
use Rattle.std.proofs.lemmas.List.Sums.{sum_by-cons}
use Rattle.std.specs.List.{count_by}
use Rattle.bits.specs.Bytes.{pack}
use Rattle.block.specs.declared.Method.{Method}
use Rattle.block.specs.declared.Parity.{Parity}
use Rattle.block.specs.declared.Shape.{Shape}
use Rattle.block.specs.declared.EndSign.{EndSign}
use Rattle.block.specs.Signs.{CodeTable}
use Rattle.block.specs.Characters.{is_seven, sent}
use Rattle.block.specs.Check.{check_of, check_length}
use Rattle.block.specs.Write.{is_clear, start_signs, inner_signs, doubled, escaped, counted_bytes, framed_bytes, line_of}
use Rattle.block.proofs.CheckLaws.{length-check_of}
use Rattle.block_signs.specs.Signs.{end_signs}
use Rattle.block_line.specs.Line.{text_bytes}
use Rattle.block_line.proofs.Lines.{framed-parts}

-- ---- escaped text

pub escaped_short : (t : CodeTable) (bs : List ℕ) → length (escaped t bs) ≤ 2 * length bs
unfolding escaped
escaped_short t [] = omega arith
escaped_short t (b ∷ bs) = go (eqb b t.DLE) (escaped_short t bs)
  where
    go : (dle : Bool) → length (escaped t bs) ≤ 2 * length bs → length (doubled dle b (escaped t bs)) ≤ 2 * length (b ∷ bs)
    go true h = omega arith
    go false h = omega arith

pub text_short : (t : CodeTable) (clear : Bool) (body : List ℕ) → length (text_bytes t clear body) ≤ 2 * length body
unfolding text_bytes
text_short t true body = escaped_short t body
text_short t false body = omega arith

-- a byte more for each DLE
pub escaped_count : (t : CodeTable) (bs : List ℕ) → length bs + count_by (λ b. eqb b t.DLE) bs ≡ length (escaped t bs)
unfolding escaped
escaped_count t [] = refl
escaped_count t (b ∷ bs) =
    ap (λ n. length (b ∷ bs) + n) (sum_by-cons (λ x. cond (eqb x t.DLE) 1 0) b bs) ∙ go (eqb b t.DLE) (escaped_count t bs)
  where
    go : (dle : Bool) → length bs + count_by (λ x. eqb x t.DLE) bs ≡ length (escaped t bs) → length (b ∷ bs) + (cond dle 1 0 + count_by (λ x. eqb x t.DLE) bs) ≡ length (doubled dle b (escaped t bs))
    go true h = omega (arith, h)
    go false h = omega (arith, h)

-- ---- the line

pub length-line : (t : CodeTable) (m : Method) (p : Parity) (s : Shape) (e : EndSign) (head body : List ℕ)
    → length (line_of t m p s e head body)
    ≡ length (start_signs t s) + length head + length (inner_signs t s) + length (text_bytes t (is_clear s) body) + length (end_signs t (is_clear s) e) + check_length m
unfolding line_of
length-line t m p s e head body =
    let text = text_bytes t (is_clear s) body in
    let ending = end_signs t (is_clear s) e in
    length-append (framed_bytes t m p s e head body) (pack (check_of m p (counted_bytes t m p s e head body)))
    ∙ ap₂ ◌+◌
    (ap length (framed-parts t m p s e head body)
    ∙ length-map (start_signs t s ++ (head ++ (inner_signs t s ++ (text ++ ending)))) (sent (is_seven m) p)
    ∙ length-append (start_signs t s) (head ++ (inner_signs t s ++ (text ++ ending)))
    ∙ omega (
      arith,
      length-append head (inner_signs t s ++ (text ++ ending)),
      length-append (inner_signs t s) (text ++ ending),
      length-append text ending,
    ))
    (length-check_of m p (counted_bytes t m p s e head body))
