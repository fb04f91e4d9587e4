-- Document 02's number and value for each case of the answers. Assumes nothing.
use Rattle.std.specs.Prelude.{ℕ, Result, Ok, Err}
use Rattle.block.specs.Answers as block
use Rattle.block.specs.Answers.{Numbers}
use Rattle.sender.specs.declared.Station.{Station}
use Rattle.sender.specs.declared.SenderRefusal.{SenderRefusal}
use Rattle.sender.specs.declared.SenderRefusal.TheVariants.{Modulus, Record, TooShort, TooLong, Full, NotStored, OrderPending}
use Rattle.sender.specs.declared.SenderResult.{SenderResult}
use Rattle.sender.specs.Sender.{Verdict, no, Answer, done, refused, Outcome}

abbrev pub number_of : SenderRefusal → ℕ
number_of Modulus = 41
number_of Record = 51
number_of (TooShort needed) = 6
number_of TooLong = 57
number_of Full = 55
number_of NotStored = 56
number_of OrderPending = 67

abbrev pub value_of : SenderRefusal → ℕ
value_of Modulus = 0
value_of Record = 0
value_of (TooShort needed) = needed
value_of TooLong = 0
value_of Full = 0
value_of NotStored = 0
value_of OrderPending = 0

-- questions as code answers them, and what follows them
abbrev pub after_asked : Result Unit SenderRefusal → Verdict → Verdict
after_asked (Ok passed) next = next
after_asked (Err r) next = no (number_of r) (value_of r)

abbrev pub answer_of : Result ℕ SenderRefusal → Answer
answer_of (Ok k) = done k
answer_of (Err r) = refused (number_of r) (value_of r)

-- an answer, and the record after it
abbrev pub told : Result ℕ SenderRefusal → Station → Outcome
told answer station = record { answer = answer_of answer; station = station }

abbrev pub outcome_of : SenderResult → Outcome
outcome_of r = told r.answer r.after

-- a sending: the length of the line, or a refusal
abbrev pub sent_of : Result ℕ SenderRefusal → Numbers
sent_of (Ok len) = block.line len
sent_of (Err r) = block.refused (number_of r) (value_of r)
