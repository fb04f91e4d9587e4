-- Document 02's number tells every answer apart: each is read back from its answer. Assumes nothing.
use Rattle.std.proofs.Common.{◌≡◌, ℕ, ◌^◌, ◌<◌, Result, Ok, Err, refl, sym, ap, ◌∙◌, mod-eq_of_lt}
use Rattle.bits.specs.Bytes.{low_bits, value}
use Rattle.bits.proofs.Bytes.{value-low_bits}
use Rattle.joining.specs.declared.JoinRefusal.{JoinRefusal}
use Rattle.joining.specs.declared.JoinRefusal.TheVariants.{TooLong}
use Rattle.joining.specs.Joining.{Answer, check, refused}
use Rattle.joining.specs.Answers.{answer_of}

-- a check of w bits, or a refusal
abbrev Fits : ℕ → Result ℕ JoinRefusal → Type 0
Fits w (Ok n) = n < 2 ^ w
Fits w (Err r) = Unit

answer_from : Answer → Result ℕ JoinRefusal
answer_from (check bits) = Ok (value bits)
answer_from (refused number carried) = Err TooLong

answer_back : (w : ℕ) (r : Result ℕ JoinRefusal) → Fits w r → answer_from (answer_of (low_bits w) r) ≡ r
unfolding answer_from
answer_back w (Ok n) h = ap Ok (value-low_bits w n ∙ mod-eq_of_lt h)
answer_back w (Err TooLong) h = refl

pub answer_of_injective : (w : ℕ) (r s : Result ℕ JoinRefusal) → Fits w r → Fits w s → answer_of (low_bits w) r ≡ answer_of (low_bits w) s → r ≡ s
answer_of_injective w r s h k e = sym (answer_back w r h) ∙ ap answer_from e ∙ answer_back w s k
