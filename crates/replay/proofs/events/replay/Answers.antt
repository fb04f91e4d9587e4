-- `replay` meets its contract: an event, and what is left. Assumes nothing.
use Rattle.std.proofs.Common.{ap, ◌∙◌}
use Rattle.sender.specs.declared.Station.{Station}
use Rattle.replay.specs.Replay.{after_events, after_event, trace_events}
use Rattle.replay.specs.Answers.{state_of}
use Rattle.replay.proofs.EachEvent.{one_event, no_event}
use Rattle.replay.proofs.Traces.{events-none, events-more}
use Rattle.replay.proofs.events.replay.Goals as goal

pub loop-bytes-init : goal.loop-bytes-init
loop-bytes-init c =
    let a = c.args in
    ap (λ (s : Station). after_events a.n a.w (record { station = s; store = a.store.now; c = 0 }) (trace_events a.trace.now)) c.fresh.ensures

pub loop-bytes-preserved : goal.loop-bytes-preserved
loop-bytes-preserved c =
    let a = c.args in
    let l = c.loop-bytes in
    let s = c.in-Some.ensures.cases in
    one_event a.n a.w (state_of l.state l.store) (c.replay_event-state.ensures ∙ ap (after_event a.n a.w (state_of l.state l.store)) c.event_of.ensures)
    (events-more l.rest.now s.0 s.1 s.2)
    ∙ l.invariant

pub returns : goal.returns
returns c =
    let a = c.args in
    let l = c.loop-bytes in
    no_event a.n a.w (state_of l.state l.store) (events-none l.rest.now c.in_default.ensures.cases) ∙ l.invariant
