-- What an event does, from what the calls ensure. Assumes nothing.
use Rattle.std.proofs.Common.{◌≡◌, ℕ, List, [], ◌∷◌, length, replicate, sym, ap, ◌∙◌}
use Rattle.std.proofs.lemmas.Bool.{ne_eqb}
use borrow.Author.Tests.{eq-eqb}
use Rattle.bits.specs.Calls.{Call, called}
use Rattle.number.specs.Number as number
use Rattle.sender.specs.Sender.{Outcome, submit_call, acknowledging}
use Rattle.replay.specs.declared.Event.{Event}
use Rattle.replay.specs.Replay.{State, submitted, after_event, after_events}

module _ (n w : ℕ) (s : State) (e : Event) where
  pub event-submitted : e.kind ≡ 1 → {o : Outcome} {store : List ℕ} → called o store ≡ submit_call n w s.station s.store (replicate e.len 0)
      → record { station = o.station; store = store; c = s.c } ≡ after_event n w s e
  unfolding after_event
  event-submitted k f = rw (eq-eqb e.kind 1 k) (ap (λ (x : Call Outcome). submitted x s.c) f)

  pub event-acknowledged : e.kind ≡ 2 → {o : Outcome} → o ≡ acknowledging n w s.station (length s.store) e.number
      → record { station = o.station; store = s.store; c = s.c } ≡ after_event n w s e
  unfolding after_event
  event-acknowledged k f = rw k (ap (λ (x : Outcome). record { station = x.station; store = s.store; c = s.c }) f)

  pub event-received : e.kind ≡ 3 → {o : number.Outcome} → o ≡ number.receiving n w s.c e.number
      → record { station = s.station; store = s.store; c = o.c } ≡ after_event n w s e
  unfolding after_event
  event-received k f = rw k (ap (λ (x : number.Outcome). record { station = s.station; store = s.store; c = x.c }) f)

  pub event-unknown : (e.kind ≡ 1 → ⊥) → (e.kind ≡ 2 → ⊥) → (e.kind ≡ 3 → ⊥) → s ≡ after_event n w s e
  unfolding after_event
  event-unknown f g h = rw (ne_eqb e.kind 1 f, ne_eqb e.kind 2 g, ne_eqb e.kind 3 h)

-- ---- event after event

module _ (n w : ℕ) (s : State) {events : List Event} where
  pub no_event : events ≡ [] → s ≡ after_events n w s events
  unfolding after_events
  no_event e = sym (ap (after_events n w s) e)

  pub one_event : {s' : State} {e : Event} {rest : List Event} → s' ≡ after_event n w s e → events ≡ e ∷ rest
      → after_events n w s' rest ≡ after_events n w s events
  unfolding after_events
  one_event {s'} {e} {rest} f g = ap (λ (x : State). after_events n w x rest) f ∙ sym (ap (after_events n w s) g)
