-- `replay_event` meets its contract: each arm is the event's. Assumes nothing.
use Rattle.std.proofs.Common.{arith}
use Rattle.replay.specs.Answers.{state_of}
use Rattle.replay.proofs.EachEvent.{event-submitted, event-acknowledged, event-received, event-unknown}
use Rattle.replay.proofs.events.replay_event.Goals as goal

pub returns-in-1 : goal.returns-in-1
returns-in-1 c =
    let a = c.args in
    event-submitted a.n a.w (state_of a.state a.store.now) a.event c.in-1.is c.submit_zeros.ensures

pub returns-in-2 : goal.returns-in-2
returns-in-2 c =
    let a = c.args in
    event-acknowledged a.n a.w (state_of a.state a.store.now) a.event c.in-2.is c.acknowledge.ensures

pub returns-in-3 : goal.returns-in-3
returns-in-3 c =
    let a = c.args in
    event-received a.n a.w (state_of a.state a.store.now) a.event c.in-3.is c.receive.ensures

pub returns-in_default : goal.returns-in_default
returns-in_default c =
    let a = c.args in
    event-unknown a.n a.w (state_of a.state a.store.now) a.event (λ k. omega arith) (λ k. omega arith) (λ k. omega arith)
