-- `ask_events` meets its contract: the first unknown event is refused, and behind a known one the others are asked. Assumes nothing.
use Rattle.std.proofs.Common.{◌∙◌, inl, inr, ⊎_elim, arith, ltb-true, ltb-false}
use Rattle.replay.proofs.Asking.{asked-all, unknown_event, known_event}
use Rattle.replay.proofs.questions.ask_events.Goals as goal

pub returns-then-kind-lt1 : goal.returns-then-kind-lt1
returns-then-kind-lt1 c =
    let l = c.loop-bytes in
    let s = c.in-Some.ensures.cases in
    unknown_event l.index l.rest.now s.0 s.1 s.2 (⊎_elim (λ t. inl (omega arith)) (λ t. inr (omega (arith, ltb-true))) c.then-kind-lt1.either)
    ∙ l.invariant.left

pub loop-bytes-preserved : goal.loop-bytes-preserved
loop-bytes-preserved c =
    let l = c.loop-bytes in
    let s = c.in-Some.ensures.cases in
    record {
      few = omega (arith, l.invariant.few, s.2);
      left = known_event l.index l.rest.now s.0 s.1 s.2 (omega arith) (omega (arith, ltb-false)) ∙ l.invariant.left;
    }

pub returns : goal.returns
returns c = asked-all c.loop-bytes.index c.loop-bytes.rest.now c.in_default.ensures.cases ∙ c.loop-bytes.invariant.left
