-- `replay` meets its contract. The loop's invariant: what is left of the trace, from the state so far, gives the whole. The measure is
-- what is left. Assumes nothing.
use Rattle.std.proofs.Common.{◌≡◌, length}
use Rattle.replay.specs.Replay.{after_events, trace_events, end_state}
use Rattle.replay.specs.Answers.{state_of}
use Rattle.replay.proofs.events.replay.Given as goal

abbrev pub invariant-loop-bytes : goal.invariant-loop-bytes
invariant-loop-bytes l = after_events l.n l.w (state_of l.state l.store) (trace_events l.rest) ≡ end_state l.n l.w l.trace l.fn.store

abbrev pub decreases-loop-bytes : goal.decreases-loop-bytes
decreases-loop-bytes l = length l.rest
