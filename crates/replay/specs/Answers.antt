-- Document 02's number and values for each case of the answers. Assumes nothing.
use Rattle.std.specs.Prelude.{ℕ, List, Result, Ok, Err}
use Rattle.sender.specs.Answers as sender
use Rattle.sender.specs.Sender.{Verdict, no}
use Rattle.replay.specs.declared.PanelReading.{PanelReading}
use Rattle.replay.specs.declared.ReplayRefusal.{ReplayRefusal}
use Rattle.replay.specs.declared.ReplayRefusal.TheVariants.{Sender, TraceLength, UnknownEvent}
use Rattle.replay.specs.Replay.{State, Answer, reading, refused}

abbrev pub number_of : ReplayRefusal → ℕ
number_of (Sender r) = sender.number_of r
number_of TraceLength = 61
number_of (UnknownEvent index) = 62

abbrev pub value_of : ReplayRefusal → ℕ
value_of (Sender r) = sender.value_of r
value_of TraceLength = 0
value_of (UnknownEvent index) = index

-- questions as code answers them, and what follows them
abbrev pub after_asked : Result Unit ReplayRefusal → Verdict → Verdict
after_asked (Ok passed) next = next
after_asked (Err r) next = no (number_of r) (value_of r)

abbrev pub answer_of : {Reading : Type 0} → Result Reading ReplayRefusal → Answer Reading
answer_of (Ok r) = reading r
answer_of (Err r) = refused (number_of r) (value_of r)

-- a state as code holds it, beside the store
abbrev pub state_of : PanelReading → List ℕ → State
state_of r store = record { station = r.station; store = store; c = r.c }
