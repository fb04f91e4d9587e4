-- Document 01's numbers tell every answer and record apart: each is read back from its outcome. Assumes nothing.
use Rattle.std.proofs.Common.{◌≡◌, ℕ, cond, eqb, sym, refl, ap, ◌∙◌}
use Rattle.number.specs.declared.NumberRefusal.{NumberRefusal}
use Rattle.number.specs.declared.NumberRefusal.TheVariants as refusal
use Rattle.number.specs.declared.Verdict as answer
use Rattle.number.specs.declared.Verdict.TheVariants.{New, Repeat, Lost}
use Rattle.std.specs.Prelude.{Result, Ok, Err}
use Rattle.number.specs.declared.NumberResult.{NumberResult}
use Rattle.number.specs.Number.{Verdict, new, repeat, lost, refused, Outcome}
use Rattle.number.specs.Answers.{number_of, verdict_of, outcome_of}

refusal_from : ℕ → NumberRefusal
refusal_from n = cond (eqb n 41) refusal.Modulus (cond (eqb n 51) refusal.Window (cond (eqb n 42) refusal.Awaited refusal.Received))

refusal_back : (r : NumberRefusal) → refusal_from (number_of r) ≡ r
unfolding refusal_from
refusal_back refusal.Modulus = refl
refusal_back refusal.Window = refl
refusal_back refusal.Awaited = refl
refusal_back refusal.Received = refl

answer_from : Verdict → Result answer.Verdict NumberRefusal
answer_from new = Ok New
answer_from repeat = Ok Repeat
answer_from lost = Ok Lost
answer_from (refused number) = Err (refusal_from number)

answer_back : (a : Result answer.Verdict NumberRefusal) → answer_from (verdict_of a) ≡ a
unfolding answer_from
answer_back (Ok New) = refl
answer_back (Ok Repeat) = refl
answer_back (Ok Lost) = refl
answer_back (Err r) = ap Err (refusal_back r)

result_from : Outcome → NumberResult
result_from o = record { answer = answer_from o.verdict; after = record { n = o.n; w = o.w; c = o.c } }

result_back : (r : NumberResult) → result_from (outcome_of r) ≡ r
unfolding result_from
result_back r = ap (λ (a : Result answer.Verdict NumberRefusal). record { answer = a; after = r.after }) (answer_back r.answer)

pub outcome_of_injective : (r s : NumberResult) → outcome_of r ≡ outcome_of s → r ≡ s
outcome_of_injective r s e = sym (result_back r) ∙ ap result_from e ∙ result_back s
