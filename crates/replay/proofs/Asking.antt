-- The questions as code asks them, record by record. Assumes nothing.
use Rattle.std.proofs.Common.{◌≡◌, ℕ, ◌+◌, ◌%◌, ◌<◌, ◌≤◌, ◌⊎◌, inl, inr, List, ◌∷◌, length, take, drop, get_or, sym, ap, ◌∙◌, le-leb}
use mathlib.Core.Bool.{and-false}
use borrow.Author.Tests.{lt-leb}
use Rattle.std.proofs.lemmas.Bool.{ne_eqb}
use Rattle.sender.specs.declared.Station.{Station}
use Rattle.sender.specs.Sender.{Verdict, clear, no, of_record, of_store}
use Rattle.sender.specs.History.{fresh}
use Rattle.replay.specs.Replay.{event_of, of_events, of_length, of_trace, trace_events}
use Rattle.replay.proofs.Traces.{events-none, events-more}

module _ (index : ℕ) (trace : List ℕ) where
  pub asked-all : length trace < 16 → clear ≡ of_events index (trace_events trace) clear
  unfolding of_events
  asked-all h = sym (ap (λ es. of_events index es clear) (events-none trace h))

  module _ {bytes behind : List ℕ} (e : bytes ≡ take 16 trace) (f : behind ≡ drop 16 trace) (h : length behind + 16 ≡ length trace) where
    taken-off : of_events index (event_of bytes ∷ trace_events behind) clear ≡ of_events index (trace_events trace) clear
    taken-off = ap (λ es. of_events index es clear) (sym (events-more trace e f h))

    pub unknown_event : get_or bytes 0 0 < 1 ⊎ 3 < get_or bytes 0 0 → no 62 index ≡ of_events index (trace_events trace) clear
    unfolding of_events
    unknown_event (inl l) = rw (lt-leb 1 (get_or bytes 0 0) l) at taken-off
    unknown_event (inr l) = rw (lt-leb (get_or bytes 0 0) 3 l, and-false) at taken-off

    pub known_event : 1 ≤ get_or bytes 0 0 → get_or bytes 0 0 ≤ 3 → of_events (index + 1) (trace_events behind) clear ≡ of_events index (trace_events trace) clear
    unfolding of_events
    known_event l m = rw (le-leb 1 (get_or bytes 0 0) l, le-leb (get_or bytes 0 0) 3 m) at taken-off

-- 41, 51 and 6 as they were asked of a fresh station, and what is asked behind them
module _ (n w size : ℕ) (trace : List ℕ) {s : Station} (e : s ≡ fresh) where
  pub refused_station : {v : Verdict} → ((next : Verdict) → v ≡ of_record n w s (of_store w size next)) → v ≡ of_trace n w size trace
  unfolding of_trace
  refused_station refused = refused _ ∙ ap (λ (x : Station). of_record n w x (of_store w size (of_length trace (of_events 0 (trace_events trace) clear)))) e

  module _ (passed : (next : Verdict) → next ≡ of_record n w s (of_store w size next)) where
    behind : (next : Verdict) → next ≡ of_record n w fresh (of_store w size next)
    behind next = passed next ∙ ap (λ (x : Station). of_record n w x (of_store w size next)) e

    pub no_whole_records : (length trace % 16 ≡ 0 → ⊥) → no 61 0 ≡ of_trace n w size trace
    unfolding of_trace
    no_whole_records h = rw (ne_eqb (length trace % 16) 0 h) (behind (no 61 0))

    pub whole_records : length trace % 16 ≡ 0 → {v : Verdict} → v ≡ of_events 0 (trace_events trace) clear → v ≡ of_trace n w size trace
    unfolding of_trace
    whole_records h f = rw h (f ∙ behind (of_events 0 (trace_events trace) clear))
