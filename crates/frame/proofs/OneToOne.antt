-- Document 01's numbers tell every answer apart: each is read back from them. Assumes nothing.
use mathlib.Core.Path.{◌≡◌, refl, sym, ap, ◌∙◌}
use Prim.Native.Nat.{ℕ}
use mathlib.Core.Bool.{cond}
use lib.Dec.{eqb}
use Rattle.std.specs.Prelude.{Result, Ok, Err}
use Rattle.frame.specs.declared.WriteRefusal.{WriteRefusal}
use Rattle.frame.specs.declared.WriteRefusal.TheVariants as writing
use Rattle.frame.specs.declared.ReadRefusal.{ReadRefusal}
use Rattle.frame.specs.declared.ReadRefusal.TheVariants as reading
use Rattle.frame.specs.Answers.{Numbers, frame, content, refused, write_number, write_value, of_written, read_number, read_value, of_read}

-- ---- writing

write_refusal_from : ℕ → ℕ → WriteRefusal
write_refusal_from n v =
    cond (eqb n 66) writing.BitsNotLent
    (cond (eqb n 21) writing.NoContent
    (cond (eqb n 22) writing.TooLong (writing.OutputShort v)))

write_refusal_back : (r : WriteRefusal) → write_refusal_from (write_number r) (write_value r) ≡ r
unfolding write_refusal_from
write_refusal_back writing.BitsNotLent = refl
write_refusal_back writing.NoContent = refl
write_refusal_back writing.TooLong = refl
write_refusal_back (writing.OutputShort needed) = refl

written_from : Numbers → Result ℕ WriteRefusal
written_from (frame bits) = Ok bits
written_from (content bits) = Ok bits
written_from (refused n v) = Err (write_refusal_from n v)

written_back : (w : Result ℕ WriteRefusal) → written_from (of_written w) ≡ w
unfolding written_from
written_back (Ok bits) = refl
written_back (Err r) = ap Err (write_refusal_back r)

pub of_written_injective : (v w : Result ℕ WriteRefusal) → of_written v ≡ of_written w → v ≡ w
of_written_injective v w e = sym (written_back v) ∙ ap written_from e ∙ written_back w

-- ---- reading

read_refusal_from : ℕ → ℕ → ReadRefusal
read_refusal_from n v =
    cond (eqb n 31) reading.BitsNotLent
    (cond (eqb n 32) reading.NoFlags
    (cond (eqb n 33) (reading.ZeroMissing (record { 0 = v }))
    (cond (eqb n 35) reading.NoContent
    (cond (eqb n 36) reading.TooLong
    (cond (eqb n 37) reading.WrongCheck (reading.OutputShort v))))))

read_refusal_back : (r : ReadRefusal) → read_refusal_from (read_number r) (read_value r) ≡ r
unfolding read_refusal_from
read_refusal_back reading.BitsNotLent = refl
read_refusal_back reading.NoFlags = refl
read_refusal_back (reading.ZeroMissing at) = refl
read_refusal_back reading.NoContent = refl
read_refusal_back reading.TooLong = refl
read_refusal_back reading.WrongCheck = refl
read_refusal_back (reading.OutputShort needed) = refl

read_from : Numbers → Result ℕ ReadRefusal
read_from (frame bits) = Ok bits
read_from (content bits) = Ok bits
read_from (refused n v) = Err (read_refusal_from n v)

read_back : (r : Result ℕ ReadRefusal) → read_from (of_read r) ≡ r
unfolding read_from
read_back (Ok bits) = refl
read_back (Err r) = ap Err (read_refusal_back r)

pub of_read_injective : (r s : Result ℕ ReadRefusal) → of_read r ≡ of_read s → r ≡ s
of_read_injective r s e = sym (read_back r) ∙ ap read_from e ∙ read_back s
