-- Document 01's numbers tell every answer apart: each is read back from them. Assumes nothing.
use mathlib.Core.Path.{◌≡◌, refl, sym, ap, ap₂, ◌∙◌}
use Prim.Native.Nat.{ℕ}
use Rattle.std.specs.Prelude.{Result, Ok, Err}
use mathlib.Core.Bool.{cond}
use lib.Dec.{eqb}
use Rattle.block.specs.declared.Shape.{Shape}
use Rattle.block.specs.declared.Shape.TheVariants as shape
use Rattle.block.specs.declared.EndSign.{EndSign}
use Rattle.block.specs.declared.EndSign.TheVariants.{Etx, Etb, Us}
use Rattle.block.specs.declared.ReadRefusal.{ReadRefusal}
use Rattle.block.specs.declared.ReadRefusal.TheVariants as reading
use Rattle.block.specs.declared.Block.{Block}
use Rattle.block.specs.declared.WriteRefusal.{WriteRefusal}
use Rattle.block.specs.declared.WriteRefusal.TheVariants as writing
use Rattle.block.specs.Signs.{koi7}
use Rattle.block.specs.Answers.{Numbers, block, line, refused, shape_number, end_number, read_number, read_value, of_read, write_number, write_value, of_written}

-- ---- shape and end sign

shape_from : ℕ → Shape
shape_from n =
    cond (eqb n 1) shape.Header
    (cond (eqb n 2) shape.Text
    (cond (eqb n 3) shape.HeaderText
    (cond (eqb n 4) shape.ClearText shape.HeaderClearText)))

shape_back : (s : Shape) → shape_from (shape_number s) ≡ s
unfolding shape_from
shape_back shape.Header = refl
shape_back shape.Text = refl
shape_back shape.HeaderText = refl
shape_back shape.ClearText = refl
shape_back shape.HeaderClearText = refl

end_from : ℕ → EndSign
end_from b = cond (eqb b koi7.ETX) Etx (cond (eqb b koi7.ETB) Etb Us)

end_back : (e : EndSign) → end_from (end_number e) ≡ e
unfolding end_from
end_back Etx = refl
end_back Etb = refl
end_back Us = refl

-- ---- reading

read_refusal_from : ℕ → ℕ → ReadRefusal
read_refusal_from n v =
    cond (eqb n 58) reading.CodeNotCarried
    (cond (eqb n 11) reading.TooLong
    (cond (eqb n 12) (reading.WrongParity (record { 0 = v }))
    (cond (eqb n 13) reading.NoStart
    (cond (eqb n 14) (reading.OutOfPlace (record { 0 = v }))
    (cond (eqb n 15) reading.NoEnd
    (cond (eqb n 52) (reading.CheckShort (record { 0 = v }))
    (cond (eqb n 53) (reading.CheckLong (record { 0 = v }))
    (cond (eqb n 17) reading.TooManyCounted
    (cond (eqb n 18) reading.WrongCheck
    (cond (eqb n 54) reading.WrongDiagonal (reading.OutputShort v)))))))))))

read_refusal_back : (r : ReadRefusal) → read_refusal_from (read_number r) (read_value r) ≡ r
unfolding read_refusal_from
read_refusal_back reading.CodeNotCarried = refl
read_refusal_back reading.TooLong = refl
read_refusal_back (reading.WrongParity at) = refl
read_refusal_back reading.NoStart = refl
read_refusal_back (reading.OutOfPlace at) = refl
read_refusal_back reading.NoEnd = refl
read_refusal_back (reading.CheckShort at) = refl
read_refusal_back (reading.CheckLong at) = refl
read_refusal_back reading.TooManyCounted = refl
read_refusal_back reading.WrongCheck = refl
read_refusal_back reading.WrongDiagonal = refl
read_refusal_back (reading.OutputShort needed) = refl

read_from : Numbers → Result Block ReadRefusal
read_from (block s e h t c) = Ok (record { shape = shape_from s; end = end_from e; header = h; text = t; counted = c })
read_from (line n) = Err reading.NoEnd
read_from (refused n v) = Err (read_refusal_from n v)

read_back : (r : Result Block ReadRefusal) → read_from (of_read r) ≡ r
unfolding read_from
read_back (Ok b) =
    ap₂ (λ (s : Shape) (e : EndSign). Ok (record { shape = s; end = e; header = b.header; text = b.text; counted = b.counted })) (shape_back b.shape)
    (end_back b.end)
read_back (Err r) = ap Err (read_refusal_back r)

pub of_read_injective : (r s : Result Block ReadRefusal) → of_read r ≡ of_read s → r ≡ s
of_read_injective r s e = sym (read_back r) ∙ ap read_from e ∙ read_back s

-- ---- writing

write_refusal_from : ℕ → ℕ → WriteRefusal
write_refusal_from n v =
    cond (eqb n 58) writing.CodeNotCarried
    (cond (eqb n 1) writing.NotCarried
    (cond (eqb n 2) (writing.HeaderByte (record { 0 = v }))
    (cond (eqb n 3) (writing.TextByte (record { 0 = v }))
    (cond (eqb n 4) writing.PartNotEmpty
    (cond (eqb n 5) writing.TooManyCounted (writing.OutputShort v))))))

write_refusal_back : (r : WriteRefusal) → write_refusal_from (write_number r) (write_value r) ≡ r
unfolding write_refusal_from
write_refusal_back writing.CodeNotCarried = refl
write_refusal_back writing.NotCarried = refl
write_refusal_back (writing.HeaderByte at) = refl
write_refusal_back (writing.TextByte at) = refl
write_refusal_back writing.PartNotEmpty = refl
write_refusal_back writing.TooManyCounted = refl
write_refusal_back (writing.OutputShort needed) = refl

written_from : Numbers → Result ℕ WriteRefusal
written_from (block s e h t c) = Ok h
written_from (line n) = Ok n
written_from (refused n v) = Err (write_refusal_from n v)

written_back : (w : Result ℕ WriteRefusal) → written_from (of_written w) ≡ w
unfolding written_from
written_back (Ok n) = refl
written_back (Err r) = ap Err (write_refusal_back r)

pub of_written_injective : (v w : Result ℕ WriteRefusal) → of_written v ≡ of_written w → v ≡ w
of_written_injective v w e = sym (written_back v) ∙ ap written_from e ∙ written_back w
