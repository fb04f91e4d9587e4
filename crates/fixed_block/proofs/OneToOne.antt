-- Document 02's numbers tell every answer apart: each is read back from its number and value. Assumes nothing.
use Rattle.std.proofs.Common.{◌≡◌, ℕ, cond, eqb, Result, Ok, Err, sym, refl, ap, ◌∙◌}
use Rattle.fixed_block.specs.declared.FixedWriteRefusal.{FixedWriteRefusal}
use Rattle.fixed_block.specs.declared.FixedWriteRefusal.TheVariants as writing
use Rattle.fixed_block.specs.declared.FixedReadRefusal.{FixedReadRefusal}
use Rattle.fixed_block.specs.declared.FixedReadRefusal.TheVariants as reading
use Rattle.fixed_block.specs.Block.{Answer, done, refused}
use Rattle.fixed_block.specs.Answers.{written, read}

written_from : Answer → Result ℕ FixedWriteRefusal
written_from (done n) = Ok n
written_from (refused number value) =
    Err (cond (eqb number 64) writing.NoContent (cond (eqb number 65) writing.TooLong (writing.OutputShort value)))

written_back : (a : Result ℕ FixedWriteRefusal) → written_from (written a) ≡ a
unfolding written_from
written_back (Ok n) = refl
written_back (Err writing.NoContent) = refl
written_back (Err writing.TooLong) = refl
written_back (Err (writing.OutputShort needed)) = refl

pub written_injective : (a b : Result ℕ FixedWriteRefusal) → written a ≡ written b → a ≡ b
written_injective a b e = sym (written_back a) ∙ ap written_from e ∙ written_back b

read_from : Answer → Result ℕ FixedReadRefusal
read_from (done n) = Ok n
read_from (refused number value) =
    Err
    (cond (eqb number 64) reading.NoContent
    (cond (eqb number 65) reading.TooLong (cond (eqb number 18) reading.WrongCheck (reading.OutputShort value))))

read_back : (a : Result ℕ FixedReadRefusal) → read_from (read a) ≡ a
unfolding read_from
read_back (Ok n) = refl
read_back (Err reading.NoContent) = refl
read_back (Err reading.TooLong) = refl
read_back (Err reading.WrongCheck) = refl
read_back (Err (reading.OutputShort needed)) = refl

pub read_injective : (a b : Result ℕ FixedReadRefusal) → read a ≡ read b → a ≡ b
read_injective a b e = sym (read_back a) ∙ ap read_from e ∙ read_back b
