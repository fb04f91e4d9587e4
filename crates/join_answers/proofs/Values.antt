-- A check's number is the value of its bits. Assumes nothing.
use Rattle.std.proofs.Common.{◌≡◌, ℕ, ◌^◌, ◌<◌, Result, Ok, sym, ap, ◌∙◌, mod-eq_of_lt}
use Rattle.bits.specs.Bytes.{low_bits}
use Rattle.bits.proofs.Bytes.{value-low_bits}
use Rattle.answers.specs.declared.ValueNumbers.{ValueNumbers}
use Rattle.answers.specs.Numbers.{value_numbers}
use Rattle.joining.specs.declared.JoinRefusal.{JoinRefusal}
use Rattle.joining.specs.Answers.{answer_of}
use Rattle.join_answers.specs.Numbers.{join_numbers}

pub joined_value : (w check : ℕ) → check < 2 ^ w → {answer : Result ℕ JoinRefusal} {numbers : ValueNumbers} → answer ≡ Ok check
    → numbers ≡ value_numbers 0 check → numbers ≡ join_numbers (answer_of (low_bits w) answer)
joined_value w check h e f =
    f ∙ ap (value_numbers 0) (sym (value-low_bits w check ∙ mod-eq_of_lt h)) ∙ ap (λ a. join_numbers (answer_of (low_bits w) a)) (sym e)
