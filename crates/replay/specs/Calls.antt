-- The calls that a trace records, made in order, and that replay ends where they do (document 02, card 9). Assumes nothing.
use Rattle.std.specs.Prelude.{◌≡◌, ℕ, ◌*◌, ◌<◌, ◌≤◌, List, [], ◌∷◌, length, get_or, replicate}
use Rattle.bits.specs.Calls.{called}
use Rattle.number.specs.declared.NumberResult.{NumberResult}
use Rattle.number.specs.Number.{receiving}
use Rattle.number.specs.Answers as number
use Rattle.sender.specs.declared.SenderResult.{SenderResult}
use Rattle.sender.specs.Sender.{clear, submit_call, acknowledging}
use Rattle.sender.specs.Answers as sender
use Rattle.sender.specs.Right.{Agreed}
use Rattle.replay.specs.declared.Event.{Event}
use Rattle.replay.specs.Replay.{State, started, trace_events, last_notes, of_trace, reading, panel_reading, service_reading, panel_call, service_call}

-- `Calls n w s events s'`: calls of `submit`, `acknowledge` and `receive` with results as their contracts promise them, one for each
-- event, each given the record, the store and the awaited number that the call before left. A result may be a refusal
pub data Calls : ℕ → ℕ → State → List Event → State → Type 0 where
  none : {n w : ℕ} {s : State} → Calls n w s [] s
  submit : {n w : ℕ} {s s' : State} {es : List Event} (e : Event) (r : SenderResult) (after : List ℕ) → e.kind ≡ 1
      → called (sender.outcome_of r) after ≡ submit_call n w s.station s.store (replicate e.len 0)
      → Calls n w (record { station = r.after; store = after; c = s.c }) es s' → Calls n w s (e ∷ es) s'
  acknowledge : {n w : ℕ} {s s' : State} {es : List Event} (e : Event) (r : SenderResult) → e.kind ≡ 2
      → sender.outcome_of r ≡ acknowledging n w s.station (length s.store) e.number
      → Calls n w (record { station = r.after; store = s.store; c = s.c }) es s' → Calls n w s (e ∷ es) s'
  receive : {n w : ℕ} {s s' : State} {es : List Event} (e : Event) (r : NumberResult) → e.kind ≡ 3
      → number.outcome_of r ≡ receiving n w s.c e.number
      → Calls n w (record { station = s.station; store = s.store; c = r.after.c }) es s' → Calls n w s (e ∷ es) s'

-- a trace that passes every question
abbrev pub Accepted : ℕ → ℕ → ℕ → List ℕ → Type 0
Accepted n w size trace = of_trace n w size trace ≡ clear

-- of every accepted trace: the calls that it records, made in order from fresh, leave what the readers are answered, and the store that
-- they are left
pub record SameEnd (n w : ℕ) (trace store : List ℕ) (s : State) : Type 0 where
  pub to_panel : panel_call n w trace store ≡ called (reading (panel_reading s)) s.store
  pub to_service : service_call n w trace store ≡ called (reading (service_reading (last_notes trace) s)) s.store

abbrev pub EveryTrace : Type 0
EveryTrace = (n w : ℕ) (trace store : List ℕ) (s : State) → Accepted n w (length store) trace
    → Calls n w (started store) (trace_events trace) s → SameEnd n w trace store s

-- there are such calls
pub record Made (n w : ℕ) (trace store : List ℕ) : Type 0 where
  pub end : State
  pub calls : Calls n w (started store) (trace_events trace) end

abbrev pub EveryTraceMade : Type 0
EveryTraceMade = (n w : ℕ) (trace store : List ℕ) → Accepted n w (length store) trace → Made n w trace store

-- and there are such traces: whatever n, w, store and records are right
abbrev pub AcceptedTraces : Type 0
AcceptedTraces = (n w size k : ℕ) (trace : List ℕ) → Agreed n w → w * 4096 ≤ size → length trace ≡ 16 * k
    → ((i : ℕ) → i < k → (1 ≤ get_or trace (16 * i) 0) × (get_or trace (16 * i) 0 ≤ 3)) → Accepted n w size trace
