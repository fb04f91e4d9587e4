-- Every accepted trace has the calls that it records. Assumes nothing.
use Rattle.std.proofs.Common.{◌≡◌, ℕ, ◌+◌, ◌%◌, ◌==◌, ◌≤◌, Bool, true, false, List, [], ◌∷◌, length, replicate, leb, leb-true, eqb, refl, arith}
use borrow.Author.Tests.{eqb-true, eqb-false}
use Rattle.bits.proofs.Tests.{ask-passed}
use Rattle.number.specs.Number.{within}
use Rattle.sender.specs.Sender.{clear}
use Rattle.sender.specs.History.{fresh}
use Rattle.sender.proofs.Passed.{both, apart, store_passed}
use Rattle.sender.proofs.Results.{submission, acknowledgement}
use Rattle.replay.specs.declared.Event.{Event}
use Rattle.replay.specs.Replay.{State, of_events, of_trace, started, trace_events}
use Rattle.replay.specs.Calls.{Calls, none, submit, acknowledge, receive, EveryTraceMade}
use Rattle.replay.proofs.Reception.{reception}

record MadeFrom (n w : ℕ) (s : State) (es : List Event) : Type 0 where
  pub end : State
  pub calls : Calls n w s es end

data Known (kind : ℕ) : Type 0 where
  first : kind ≡ 1 → Known kind
  second : kind ≡ 2 → Known kind
  third : kind ≡ 3 → Known kind

known : (kind : ℕ) → within 1 3 kind ≡ true → Known kind
known kind e = go (eqb kind 1) refl (eqb kind 2) refl
  where
    go : (one : Bool) → eqb kind 1 ≡ one → (two : Bool) → eqb kind 2 ≡ two → Known kind
    go true p two q = first (eqb-true kind 1 p)
    go false p true q = second (eqb-true kind 2 q)
    go false p false q =
        let f = eqb-false kind 1 p in
        let g = eqb-false kind 2 q in
        let h = both (leb 1 kind) (leb kind 3) e in
        let l : 1 ≤ kind = leb-true 1 kind h.0 in
        let m : kind ≤ 3 = leb-true kind 3 h.1 in
        third (omega arith)

module _ {n w : ℕ} {s : State} {e : Event} {es : List Event} (rest : (s' : State) → MadeFrom n w s' es) where
  event_made : Known e.kind → MadeFrom n w s (e ∷ es)
  event_made (first k) =
      let x = submission n w s.station s.store (replicate e.len 0) in
      let y = rest (record { station = x.result.after; store = x.after; c = s.c }) in
      record { end = y.end; calls = submit e x.result x.after k x.meets y.calls }
  event_made (second k) =
      let x = acknowledgement n w s.station (length s.store) e.number in
      let y = rest (record { station = x.result.after; store = s.store; c = s.c }) in
      record { end = y.end; calls = acknowledge e x.result k x.meets y.calls }
  event_made (third k) =
      let x = reception n w s.c e.number in
      let y = rest (record { station = s.station; store = s.store; c = x.result.after.c }) in
      record { end = y.end; calls = receive e x.result k x.meets y.calls }

events_made : (n w index : ℕ) (s : State) (es : List Event) → of_events index es clear ≡ clear → MadeFrom n w s es
unfolding of_events
events_made n w index s [] a = record { end = s; calls = none }
events_made n w index s (e ∷ es) a =
    let asked = ask-passed (within 1 3 e.kind) apart a in
    event_made (λ s'. events_made n w (index + 1) s' es asked.1) (known e.kind asked.0)

events_asked : (n w size : ℕ) (trace : List ℕ) → of_trace n w size trace ≡ clear → of_events 0 (trace_events trace) clear ≡ clear
unfolding of_trace
events_asked n w size trace a =
    (ask-passed (length trace % 16 == 0) apart (store_passed n w fresh size a).1).1

-- document 02, card 9: the calls of every accepted trace can be made
pub every_trace_made : EveryTraceMade
every_trace_made n w trace store a =
    let m = events_made n w 0 (started store) (trace_events trace) (events_asked n w (length store) trace a) in
    record { end = m.end; calls = m.calls }
