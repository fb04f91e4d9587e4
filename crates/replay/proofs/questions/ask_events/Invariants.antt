-- `ask_events` meets its contract. The loop's invariant: the question about what is left of the trace is that about the whole. The
-- measure is what is left. Assumes nothing.
use Rattle.std.proofs.Common.{◌≡◌, ◌+◌, ◌≤◌, length}
use Rattle.sender.specs.Sender.{clear}
use Rattle.replay.specs.Replay.{of_events, trace_events}
use Rattle.replay.proofs.questions.ask_events.Given as goal

abbrev pub invariant-loop-bytes : goal.invariant-loop-bytes
invariant-loop-bytes l =
    record {
      few : l.index + length l.rest ≤ length l.trace;
      left : of_events l.index (trace_events l.rest) clear ≡ of_events 0 (trace_events l.trace) clear;
    }

abbrev pub decreases-loop-bytes : goal.decreases-loop-bytes
decreases-loop-bytes l = length l.rest
