-- The papers' number and values for each case of the answers. Assumes nothing.
use Rattle.std.specs.Prelude.{ℕ, List, length, Result, Ok, Err}
use Rattle.bits.specs.Calls.{Call, called}
use Rattle.number.specs.Number as number
use Rattle.number.specs.declared.NumberRefusal.{NumberRefusal}
use Rattle.number.specs.declared.NumberRefusal.TheVariants as refusal
use Rattle.number.specs.declared.Verdict as verdict
use Rattle.number.specs.declared.Verdict.TheVariants.{New, Repeat, Lost}
use Rattle.block.specs.Read as reads
use Rattle.block.specs.Answers as block
use Rattle.block.specs.Answers.{Numbers, of_read, of_read_answer}
use Rattle.receiver.specs.declared.Receiver.{Receiver}
use Rattle.receiver.specs.declared.ReceiverRefusal.{ReceiverRefusal}
use Rattle.receiver.specs.declared.ReceiverRefusal.TheVariants.{Modulus, Record, Awaited, Received, OrderWaits}
use Rattle.receiver.specs.declared.Judged.{Judged}
use Rattle.receiver.specs.declared.OrderResult.{OrderResult}
use Rattle.receiver.specs.declared.Told.{Told}
use Rattle.receiver.specs.declared.Told.TheVariants as tells
use Rattle.receiver.specs.declared.BlockRefusal.{BlockRefusal}
use Rattle.receiver.specs.declared.BlockRefusal.TheVariants as refuses
use Rattle.receiver.specs.declared.BlockResult.{BlockResult}
use Rattle.receiver.specs.Receiver.{Outcome, OrderAnswer, noted, not_noted, BlockAnswer, taken, repeated, lost, refused, telling_block, output_after}

abbrev pub number_of : ReceiverRefusal → ℕ
number_of Modulus = 41
number_of Record = 51
number_of Awaited = 42
number_of Received = 43
number_of OrderWaits = 67

-- ---- the number check

abbrev pub of_number_refusal : NumberRefusal → ReceiverRefusal
of_number_refusal refusal.Modulus = Modulus
of_number_refusal refusal.Window = Record
of_number_refusal refusal.Awaited = Awaited
of_number_refusal refusal.Received = Received

abbrev pub verdict_of : verdict.Verdict → number.Verdict
verdict_of New = number.new
verdict_of Repeat = number.repeat
verdict_of Lost = number.lost

abbrev pub judged_of : Receiver → Result Judged ReceiverRefusal → number.Outcome
judged_of r (Ok j) = record { verdict = verdict_of j.verdict; n = r.n; w = r.w; c = j.c }
judged_of r (Err x) = number.outcome r.n r.w r.c (number.refused (number_of x))

-- ---- an order

abbrev pub order_answer : Result Unit ReceiverRefusal → OrderAnswer
order_answer (Ok done) = noted
order_answer (Err r) = not_noted (number_of r)

abbrev pub order_outcome : OrderResult → Outcome OrderAnswer
order_outcome r = record { answer = order_answer r.answer; receiver = r.after }

-- ---- a block: repeat, lost, or what reading answers in numbers, with the receiver's refusals among them

pub data TellNumbers : Type 0 where
  repeat_told : TellNumbers
  lost_told : TellNumbers
  read_told : Numbers → TellNumbers

abbrev pub told_of : Result Told BlockRefusal → TellNumbers
told_of (Ok (tells.New b)) = read_told (of_read (Ok b))
told_of (Ok tells.Repeat) = repeat_told
told_of (Ok tells.Lost) = lost_told
told_of (Err (refuses.Receiver r)) = read_told (block.refused (number_of r) 0)
told_of (Err (refuses.Line r)) = read_told (of_read (Err r))

abbrev pub block_outcome : BlockResult → Outcome TellNumbers
block_outcome r = record { answer = told_of r.answer; receiver = r.after }

-- the rule's answers in the same numbers
abbrev pub told_by : BlockAnswer → TellNumbers
told_by (taken parts) = read_told (of_read_answer (reads.taken parts))
told_by repeated = repeat_told
told_by lost = lost_told
told_by (refused q value) = read_told (block.refused q value)

abbrev pub after_telling : Outcome BlockAnswer → List ℕ → Call (Outcome TellNumbers)
after_telling o out = called (record { answer = told_by o.answer; receiver = o.receiver }) (output_after o.answer out)

abbrev pub block_call : Receiver → ℕ → List ℕ → List ℕ → Call (Outcome TellNumbers)
block_call r b line out = after_telling (telling_block r b line (length out)) out
