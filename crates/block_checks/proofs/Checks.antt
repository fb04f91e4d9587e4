-- The checks of a written line: the parts added up one after the other give the check of the counted bytes. Assumes nothing.
use Rattle.std.proofs.Common.{◌≡◌, ℕ, true, false, List, [], ◌∷◌, ◌++◌, map, refl, sym, ap, ap₂, ◌∙◌}
use lib.ListN.{length-map}
use Rattle.bits.specs.Strings.{xor_bits}
use Rattle.bits.specs.Bytes.{low_bits}
use Rattle.block.specs.declared.Method.{Method}
use Rattle.block.specs.declared.Method.TheVariants as method
use Rattle.block.specs.declared.Parity.{Parity}
use Rattle.block.specs.declared.Shape.{Shape}
use Rattle.block.specs.declared.EndSign.{EndSign}
use Rattle.block.specs.Signs.{CodeTable, end_byte}
use Rattle.block.specs.Characters.{sent}
use Rattle.block.specs.Diagonals.{diagonal_bits}
use Rattle.block.specs.Check.{row_sums, with_parity_bit, matrix_check, diagonal_check, check_of}
use Rattle.block.specs.Write.{inner_signs, counted_bytes}
use Rattle.block.proofs.CheckLaws.{with_parity-low}
use Rattle.block_checks.specs.Checked.{checked_bytes}

-- ---- eight-bit bytes are sent as they are

pub sent-eight : (p : Parity) (bs : List ℕ) → map (sent false p) bs ≡ bs
unfolding sent
sent-eight p [] = refl
sent-eight p (b ∷ bs) = ap (λ l. b ∷ l) (sent-eight p bs)

-- ---- the parts one after the other

-- what adds up bytes one after the other
pub parts_of_lem : (fold : ℕ → List ℕ → ℕ) → ((a : ℕ) (xs ys : List ℕ) → fold a (xs ++ ys) ≡ fold (fold a xs) ys) → (t : CodeTable) (s : Shape) (e : EndSign) (head body : List ℕ) (start : ℕ)
    → {a b c r : ℕ} → a ≡ fold start head → b ≡ fold a (inner_signs t s) → c ≡ fold b body → r ≡ fold c (end_byte t e ∷ []) → r ≡ fold start (checked_bytes t s e head body)
unfolding checked_bytes
parts_of_lem fold fold-append t s e head body start ea eb ec er =
    let end = end_byte t e ∷ [] in
    er ∙ ap (λ z. fold z end) (ec ∙ ap (λ z. fold z body) (eb ∙ ap (λ z. fold z (inner_signs t s)) ea))
    ∙ sym
    (fold-append start head (inner_signs t s ++ (body ++ end)) ∙ fold-append (fold start head) (inner_signs t s) (body ++ end)
    ∙ fold-append (fold (fold start head) (inner_signs t s)) body end)

-- ---- the check does not see the parity bits that are sent

rows_sent : (p : Parity) (bs : List ℕ) → row_sums (map (sent true p) bs) ≡ row_sums bs
unfolding row_sums sent
rows_sent p [] = refl
rows_sent p (b ∷ bs) = ap₂ xor_bits (with_parity-low p b) (rows_sent p bs)

columns_sent : (p : Parity) (bs : List ℕ) → map (low_bits 7) (map (sent true p) bs) ≡ map (low_bits 7) bs
unfolding sent
columns_sent p [] = refl
columns_sent p (b ∷ bs) = ap₂ (λ c cs. c ∷ cs) (with_parity-low p b) (columns_sent p bs)

matrix_sent : (p : Parity) (bs : List ℕ) → matrix_check p (map (sent true p) bs) ≡ matrix_check p bs
unfolding matrix_check
matrix_sent p bs = ap (with_parity_bit p) (rows_sent p bs)

diagonal_sent : (p : Parity) (bs : List ℕ) → diagonal_check p (map (sent true p) bs) ≡ diagonal_check p bs
unfolding diagonal_check
diagonal_sent p bs =
    ap₂ (λ n cs. with_parity_bit p (diagonal_bits n cs)) (length-map bs (sent true p))
    (ap₂ (λ cs r. cs ++ r ∷ []) (columns_sent p bs) (rows_sent p bs))

pub check_sent : (t : CodeTable) (m : Method) (p : Parity) (s : Shape) (e : EndSign) (head body : List ℕ)
    → check_of m p (checked_bytes t s e head body) ≡ check_of m p (counted_bytes t m p s e head body)
unfolding check_of counted_bytes checked_bytes
check_sent t method.Parity p s e head body = refl
check_sent t method.Matrix p s e head body = sym (matrix_sent p (head ++ (inner_signs t s ++ (body ++ end_byte t e ∷ []))))
check_sent t method.Cyclic p s e head body =
    let bs = head ++ (inner_signs t s ++ (body ++ end_byte t e ∷ [])) in
    ap (check_of method.Cyclic p) (sym (sent-eight p bs))
check_sent t method.CyclicAlternative p s e head body =
    let bs = head ++ (inner_signs t s ++ (body ++ end_byte t e ∷ [])) in
    ap (check_of method.CyclicAlternative p) (sym (sent-eight p bs))
check_sent t method.Diagonal p s e head body =
    let bs = head ++ (inner_signs t s ++ (body ++ end_byte t e ∷ [])) in
    ap₂ ◌++◌ (sym (matrix_sent p bs)) (sym (diagonal_sent p bs))
