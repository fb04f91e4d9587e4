-- Replay of a recorded line (document 02, card 9): the records, the questions in turn, what each record does, and what the two readers
-- are answered. Assumes nothing.
use Rattle.std.specs.Prelude.{ℕ, zero, suc, ◌+◌, ◌-◌, ◌*◌, ◌/◌, ◌%◌, cond, ◌==◌, nat_lt, List, [], ◌∷◌, length, drop, get_or, replicate}
use Rattle.bits.specs.Calls.{Call, called}
use Rattle.number.specs.Number.{within, receiving}
use Rattle.sender.specs.declared.Station.{Station}
use Rattle.sender.specs.Sender.{Verdict, clear, no, ask, of_record, of_store, Outcome, submit_call, acknowledging}
use Rattle.sender.specs.History.{fresh}
use Rattle.replay.specs.declared.Event.{Event}
use Rattle.replay.specs.declared.PanelReading.{PanelReading}
use Rattle.replay.specs.declared.ServiceReading.{ServiceReading}

-- ---- a trace

-- of a record of 16 bytes: byte 0 the event, byte 1 the number, bytes 2 and 3 the length, high byte first
abbrev pub event_of : List ℕ → Event
event_of bytes = record { kind = get_or bytes 0 0; number = get_or bytes 1 0; len = get_or bytes 2 0 * 256 + get_or bytes 3 0 }

-- of the first so many records
unfoldable pub events : ℕ → List ℕ → List Event
events zero bytes = []
events (suc k) bytes = event_of bytes ∷ events k (drop 16 bytes)

abbrev pub trace_events : List ℕ → List Event
trace_events trace = events (length trace / 16) trace

-- the last record
abbrev pub last_record : List ℕ → List ℕ
last_record trace = drop (length trace - 16) trace

-- its bytes 4 to 15, zeros if there is none
unfoldable pub last_notes : List ℕ → List ℕ
last_notes trace = cond (nat_lt (length trace) 16) (replicate 12 0) (drop 4 (last_record trace))

-- ---- questions

-- is every event 1, 2 or 3? 62, the index of the first record whose event is not
unfoldable pub of_events : ℕ → List Event → Verdict → Verdict
of_events at [] next = next
of_events at (e ∷ es) next = ask (within 1 3 e.kind) 62 at (of_events (at + 1) es next)

-- is the length a multiple of 16? 61
abbrev pub of_length : List ℕ → Verdict → Verdict
of_length trace next = ask (length trace % 16 == 0) 61 0 next

-- 41, 51 and 6, as the sender asks them of a fresh station, then 61 and 62
unfoldable pub of_trace : ℕ → ℕ → ℕ → List ℕ → Verdict
of_trace n w size trace = of_record n w fresh (of_store w size (of_length trace (of_events 0 (trace_events trace) clear)))

-- ---- what the records do

-- the station's record, the lent store and the awaited number
pub record State : Type 0 where
  pub station : Station
  pub store : List ℕ
  pub c : ℕ

-- a fresh station, and c = 0
abbrev pub started : List ℕ → State
started store = record { station = fresh; store = store; c = 0 }

abbrev pub submitted : Call Outcome → ℕ → State
submitted o c = record { station = o.answer.station; store = o.output; c = c }

-- 1: as many zero bytes as the length says are submitted. 2: the number is acknowledged. 3: the number is received. What a refused call
-- leaves is what its own rule says
unfoldable pub after_event : ℕ → ℕ → State → Event → State
after_event n w s e =
    cond (e.kind == 1) (submitted (submit_call n w s.station s.store (replicate e.len 0)) s.c)
    (cond (e.kind == 2) (record s { station = (acknowledging n w s.station (length s.store) e.number).station })
    (cond (e.kind == 3) (record s { c = (receiving n w s.c e.number).c }) s))

unfoldable pub after_events : ℕ → ℕ → State → List Event → State
after_events n w s [] = s
after_events n w s (e ∷ es) = after_events n w (after_event n w s e) es

abbrev pub end_state : ℕ → ℕ → List ℕ → List ℕ → State
end_state n w trace store = after_events n w (started store) (trace_events trace)

-- ---- the calls

-- what a reader is answered: his reading; or the number and the value of a refusal
pub data Answer (Reading : Type 0) : Type 0 where
  reading : Reading → Answer Reading
  refused : ℕ → ℕ → Answer Reading

-- a refused replay leaves the store
abbrev pub by_verdict : {Reading : Type 0} → Verdict → List ℕ → Reading → List ℕ → Call (Answer Reading)
by_verdict clear store r after = called (reading r) after
by_verdict (no number value) store r after = called (refused number value) store

-- the panel's reader is answered the station's record and c at the end
abbrev pub panel_reading : State → PanelReading
panel_reading s = record { station = s.station; c = s.c }

abbrev pub panel_after : Verdict → List ℕ → State → Call (Answer PanelReading)
panel_after v store s = by_verdict v store (panel_reading s) s.store

abbrev pub panel_call : ℕ → ℕ → List ℕ → List ℕ → Call (Answer PanelReading)
panel_call n w trace store = panel_after (of_trace n w (length store) trace) store (end_state n w trace store)

-- the service reader the last record's notes besides
abbrev pub service_reading : List ℕ → State → ServiceReading
service_reading notes s = record { station = s.station; c = s.c; notes = notes }

abbrev pub service_after : Verdict → List ℕ → List ℕ → State → Call (Answer ServiceReading)
service_after v store notes s = by_verdict v store (service_reading notes s) s.store

abbrev pub service_call : ℕ → ℕ → List ℕ → List ℕ → Call (Answer ServiceReading)
service_call n w trace store = service_after (of_trace n w (length store) trace) store (last_notes trace) (end_state n w trace store)
