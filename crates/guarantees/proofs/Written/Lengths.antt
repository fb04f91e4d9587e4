-- Lengths of a written line: of its check in bits, of its marks, and of the counted bytes. Assumes nothing.
use mathlib.Core.Path.{◌≡◌, refl, sym, ap, ◌∙◌}
use Prim.Native.Nat.{ℕ, ◌+◌, ◌-◌, ◌*◌, ◌≤◌}
use native.Mathlib.Omega.{arith}
use mathlib.Core.Bool.{Bool, true, false}
use mathlib.Core.List.{List, [], ◌∷◌, ◌++◌, append-nil}
use lib.Dec.{eqb}
use lib.ListN.{length, length-append, length-map}
use Rattle.bits.specs.Strings.{zeros}
use Rattle.bits.specs.Bytes.{bits_of, bytes_for, pack}
use Rattle.bits.proofs.Packing.{bits_of-pack}
use Rattle.cyclic.specs.Check.{Parameters, check_bits, method3, method4}
use Rattle.cyclic.specs.Laws.{OfWidth}
use Rattle.cyclic.proofs.Checks.{length-check}
use Rattle.cyclic.proofs.Methods.{width_3, width_4}
use Rattle.block.specs.declared.Method.{Method}
use Rattle.block.specs.declared.Method.TheVariants as method
use Rattle.block.specs.declared.Parity.{Parity}
use Rattle.block.specs.declared.Shape.{Shape}
use Rattle.block.specs.declared.Shape.TheVariants as shape
use Rattle.block.specs.declared.EndSign.{EndSign}
use Rattle.block.specs.Signs.{CodeTable}
use Rattle.block.specs.Check.{check_of}
use Rattle.block.specs.Write.{is_clear, start_signs, counted_bytes, counted_length}
use Rattle.block.specs.Limits.{counted_limit}
use Rattle.block.proofs.CheckLaws.{length_matrix, length_characters, check_bytes}
use Rattle.guarantees.proofs.Written.Walk.{marks_of, marked_twice, marked_clear}
use Rattle.guarantees.proofs.Written.Line.{marked_text, marked_line}

-- ---- the check is whole bytes, so packing it adds no bits

length_cyclic : (m : Parameters) → OfWidth 16 m → (c : List Bool) → length (check_bits m c) ≡ 16
length_cyclic m o c = length-check m (o.start-length ∙ sym o.generator.width) c ∙ o.generator.width

length-bits : (m : Method) (p : Parity) (bs : List ℕ) → length (check_of m p bs) ≡ 8 * check_bytes m
unfolding check_of
length-bits method.Parity p bs = refl
length-bits method.Matrix p bs = length_matrix p bs
length-bits method.Cyclic p bs = length_cyclic method3 width_3 (bits_of bs)
length-bits method.CyclicAlternative p bs = length_cyclic method4 width_4 (bits_of bs)
length-bits method.Diagonal p bs = length_characters p bs

pub check-back : (m : Method) (p : Parity) (bs : List ℕ) → bits_of (pack (check_of m p bs)) ≡ check_of m p bs
check-back m p bs =
    let s = check_of m p bs in
    let z : 8 * bytes_for (length s) - length s ≡ 0 = omega (arith, length-bits m p bs) in
    bits_of-pack s ∙ ap (λ n. s ++ zeros n) z ∙ append-nil s

-- ---- the line: the count bounds its length

clear_short : (table : CodeTable) (bs : List ℕ) → length (marked_clear table bs) ≤ 2 * length bs
clear_short table [] = omega arith
clear_short table (b ∷ bs) = go (eqb b table.DLE) (clear_short table bs)
  where
    go : (t : Bool) → length (marked_clear table bs) ≤ 2 * length bs → length (marked_twice t b (marked_clear table bs)) ≤ 2 * length (b ∷ bs)
    go true h = omega arith
    go false h = omega arith

text_short : (table : CodeTable) (clear : Bool) (e : EndSign) (body : List ℕ) → length (marked_text table clear e body) ≤ 2 * length body + 2
text_short table true e body = simp length-append (omega (arith, clear_short table body))
text_short table false e body = simp (length-append, length-map) (omega arith)

start_short : (table : CodeTable) (s : Shape) → length (start_signs table s) ≤ 2
start_short table shape.Header = omega arith
start_short table shape.Text = omega arith
start_short table shape.HeaderText = omega arith
start_short table shape.ClearText = omega arith
start_short table shape.HeaderClearText = omega arith

module _ (table : CodeTable) (s : Shape) (e : EndSign) (head body : List ℕ) where
  pub marks_short : counted_length table s head body ≤ counted_limit → length (marks_of (marked_line table s e head body)) ≤ 8194
  unfolding counted_length
  marks_short h = simp (length-map, length-append) (omega (arith, start_short table s, text_short table (is_clear s) e body))

pub length-counted : (table : CodeTable) (m : Method) (p : Parity) (s : Shape) (e : EndSign) (head body : List ℕ)
    → length (counted_bytes table m p s e head body) ≡ counted_length table s head body
unfolding counted_length counted_bytes
length-counted table m p s e head body = simp (length-map, length-append) (omega arith)
