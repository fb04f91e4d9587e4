-- The records of a trace, the first of them taken off. Assumes nothing.
use Rattle.std.proofs.Common.{◌≡◌, ℕ, suc, ◌+◌, ◌/◌, ◌<◌, List, [], ◌∷◌, length, take, drop, sym, ap, ◌∙◌, arith}
use Rattle.std.proofs.lemmas.List.{get_or-take}
use Rattle.replay.specs.declared.Event.{Event}
use Rattle.replay.specs.Replay.{event_of, events, trace_events}

-- an event stands in the first four bytes
pub event-first : (trace : List ℕ) → event_of (take 16 trace) ≡ event_of trace
event-first trace =
    let a : 0 < 16 = omega arith in
    let b : 1 < 16 = omega arith in
    let c : 2 < 16 = omega arith in
    let d : 3 < 16 = omega arith in
    rw (get_or-take 16 trace 0 0 a, get_or-take 16 trace 1 0 b, get_or-take 16 trace 2 0 c, get_or-take 16 trace 3 0 d)

module _ (trace : List ℕ) where
  pub events-none : length trace < 16 → trace_events trace ≡ []
  unfolding events
  events-none h =
      let e : length trace / 16 ≡ 0 = omega arith in
      ap (λ k. events k trace) e

  pub events-more : {bytes behind : List ℕ} → bytes ≡ take 16 trace → behind ≡ drop 16 trace → length behind + 16 ≡ length trace
      → trace_events trace ≡ event_of bytes ∷ trace_events behind
  unfolding events
  events-more {bytes} {behind} e f h =
      let g : length trace / 16 ≡ suc (length behind / 16) = omega arith in
      ap (λ k. events k trace) g
      ∙ ap (λ (x : Event). x ∷ events (length behind / 16) (drop 16 trace)) (sym (event-first trace) ∙ ap event_of (sym e))
      ∙ ap (λ l. event_of bytes ∷ events (length behind / 16) l) (sym f)
