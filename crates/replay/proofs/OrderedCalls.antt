-- Replay ends where the calls that a trace records do. Assumes nothing.
use Rattle.std.proofs.Common.{◌≡◌, ℕ, List, refl, sym, ap, ◌∙◌}
use Rattle.bits.specs.Calls.{called}
use Rattle.replay.specs.declared.Event.{Event}
use Rattle.replay.specs.Replay.{State, after_events, reading, panel_reading, service_reading, panel_after, service_after, last_notes, end_state}
use Rattle.replay.specs.Calls.{Calls, none, submit, acknowledge, receive, EveryTrace}
use Rattle.replay.proofs.EachEvent.{event-submitted, event-acknowledged, event-received, no_event, one_event}

-- whatever the calls that were made, of any list of events
pub same_state : {n w : ℕ} {s s' : State} {es : List Event} → Calls n w s es s' → s' ≡ after_events n w s es
same_state (none {n} {w} {s}) = no_event n w s refl
same_state (submit {n} {w} {s} e r after k f rest) = same_state rest ∙ one_event n w s (event-submitted n w s e k f) refl
same_state (acknowledge {n} {w} {s} e r k f rest) = same_state rest ∙ one_event n w s (event-acknowledged n w s e k f) refl
same_state (receive {n} {w} {s} e r k f rest) = same_state rest ∙ one_event n w s (event-received n w s e k f) refl

-- document 02, card 9: for every accepted trace the end state is that of the same calls made in order
pub every_trace : EveryTrace
every_trace n w trace store s a calls =
    let e : s ≡ end_state n w trace store = same_state calls in
    record {
      to_panel = ap (λ v. panel_after v store (end_state n w trace store)) a ∙ ap (λ (x : State). called (reading (panel_reading x)) x.store) (sym e);
      to_service =
          ap (λ v. service_after v store (last_notes trace) (end_state n w trace store)) a
          ∙ ap (λ (x : State). called (reading (service_reading (last_notes trace) x)) x.store) (sym e);
    }
