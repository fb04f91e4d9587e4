-- Document 02's numbers tell every answer and record apart: each is read back from its outcome. Assumes nothing.
use Rattle.std.proofs.Common.{◌≡◌, ℕ, cond, eqb, Result, Ok, Err, sym, refl, ap, ◌∙◌}
use Rattle.sender.specs.declared.SenderRefusal.{SenderRefusal}
use Rattle.sender.specs.declared.SenderRefusal.TheVariants.{Modulus, Record, TooShort, TooLong, Full, NotStored, OrderPending}
use Rattle.sender.specs.declared.SenderResult.{SenderResult}
use Rattle.sender.specs.Sender.{Answer, done, refused, Outcome}
use Rattle.block.specs.Answers as block
use Rattle.block.specs.Answers.{Numbers}
use Rattle.sender.specs.Answers.{number_of, value_of, answer_of, outcome_of, sent_of}

pub refusal_from : ℕ → ℕ → SenderRefusal
refusal_from number value =
    cond (eqb number 41) Modulus
    (cond (eqb number 51) Record
    (cond (eqb number 6) (TooShort value)
    (cond (eqb number 57) TooLong (cond (eqb number 55) Full (cond (eqb number 56) NotStored OrderPending)))))

pub refusal_back : (r : SenderRefusal) → refusal_from (number_of r) (value_of r) ≡ r
unfolding refusal_from
refusal_back Modulus = refl
refusal_back Record = refl
refusal_back (TooShort needed) = refl
refusal_back TooLong = refl
refusal_back Full = refl
refusal_back NotStored = refl
refusal_back OrderPending = refl

answer_from : Answer → Result ℕ SenderRefusal
answer_from (done k) = Ok k
answer_from (refused number value) = Err (refusal_from number value)

answer_back : (a : Result ℕ SenderRefusal) → answer_from (answer_of a) ≡ a
unfolding answer_from
answer_back (Ok k) = refl
answer_back (Err r) = ap Err (refusal_back r)

pub answer_of_injective : (a b : Result ℕ SenderRefusal) → answer_of a ≡ answer_of b → a ≡ b
answer_of_injective a b e = sym (answer_back a) ∙ ap answer_from e ∙ answer_back b

result_from : Outcome → SenderResult
result_from o = record { answer = answer_from o.answer; after = o.station }

result_back : (r : SenderResult) → result_from (outcome_of r) ≡ r
unfolding result_from
result_back r = ap (λ (a : Result ℕ SenderRefusal). record { answer = a; after = r.after }) (answer_back r.answer)

pub outcome_of_injective : (r s : SenderResult) → outcome_of r ≡ outcome_of s → r ≡ s
outcome_of_injective r s e = sym (result_back r) ∙ ap result_from e ∙ result_back s

-- ---- a sending

sent_from : Numbers → Result ℕ SenderRefusal
sent_from (block.block shape end header text counted) = Ok header
sent_from (block.line len) = Ok len
sent_from (block.refused number value) = Err (refusal_from number value)

sent_back : (a : Result ℕ SenderRefusal) → sent_from (sent_of a) ≡ a
unfolding sent_from
sent_back (Ok len) = refl
sent_back (Err r) = ap Err (refusal_back r)

pub sent_of_injective : (a b : Result ℕ SenderRefusal) → sent_of a ≡ sent_of b → a ≡ b
sent_of_injective a b e = sym (sent_back a) ∙ ap sent_from e ∙ sent_back b
