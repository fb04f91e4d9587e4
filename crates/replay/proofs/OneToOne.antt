-- Document 02's numbers tell every answer of a reader apart: each is read back from its outcome. Assumes nothing.
use Rattle.std.proofs.Common.{◌≡◌, ℕ, false, cond, eqb, Result, Ok, Err, sym, refl, ap, ◌∙◌}
use Rattle.sender.specs.declared.SenderRefusal.{SenderRefusal}
use Rattle.sender.specs.declared.SenderRefusal.TheVariants.{Modulus, Record, TooShort, TooLong, Full, NotStored, OrderPending}
use Rattle.sender.specs.Answers as sender
use Rattle.sender.proofs.OneToOne as numbers
use Rattle.replay.specs.declared.ReplayRefusal.{ReplayRefusal}
use Rattle.replay.specs.declared.ReplayRefusal.TheVariants.{Sender, TraceLength, UnknownEvent}
use Rattle.replay.specs.Replay.{Answer, reading, refused}
use Rattle.replay.specs.Answers.{number_of, value_of, answer_of}

refusal_from : ℕ → ℕ → ReplayRefusal
refusal_from number value =
    cond (eqb number 61) TraceLength (cond (eqb number 62) (UnknownEvent value) (Sender (numbers.refusal_from number value)))

no_trace_number : (r : SenderRefusal) → (eqb (sender.number_of r) 61 ≡ false) × (eqb (sender.number_of r) 62 ≡ false)
no_trace_number Modulus = (refl, refl)
no_trace_number Record = (refl, refl)
no_trace_number (TooShort needed) = (refl, refl)
no_trace_number TooLong = (refl, refl)
no_trace_number Full = (refl, refl)
no_trace_number NotStored = (refl, refl)
no_trace_number OrderPending = (refl, refl)

refusal_back : (r : ReplayRefusal) → refusal_from (number_of r) (value_of r) ≡ r
unfolding refusal_from
refusal_back (Sender r) = let e = no_trace_number r in rw (e.0, e.1) (ap Sender (numbers.refusal_back r))
refusal_back TraceLength = refl
refusal_back (UnknownEvent index) = refl

module _ {Reading : Type 0} where
  answer_from : Answer Reading → Result Reading ReplayRefusal
  answer_from (reading r) = Ok r
  answer_from (refused number value) = Err (refusal_from number value)

  answer_back : (r : Result Reading ReplayRefusal) → answer_from (answer_of r) ≡ r
  unfolding answer_from
  answer_back (Ok r) = refl
  answer_back (Err r) = ap Err (refusal_back r)

  pub answer_of_injective : (r r' : Result Reading ReplayRefusal) → answer_of r ≡ answer_of r' → r ≡ r'
  answer_of_injective r r' e = sym (answer_back r) ∙ ap answer_from e ∙ answer_back r'
