-- Traces that are accepted. Assumes nothing.
use Rattle.std.proofs.Common.{◌≡◌, ℕ, zero, suc, ◌+◌, ◌*◌, ◌/◌, ◌%◌, ◌<◌, ◌≤◌, List, length, drop, get_or, refl, ap, ◌∙◌, arith, le-leb}
use Rattle.std.proofs.lemmas.List.{get_or-drop}
use Rattle.sender.specs.Sender.{clear}
use Rattle.sender.specs.History.{fresh}
use Rattle.sender.proofs.Passed.{ready_passes}
use Rattle.sender.proofs.Histories.{fresh_right}
use Rattle.replay.specs.Replay.{events, of_events, of_trace}
use Rattle.replay.specs.Calls.{AcceptedTraces}

abbrev KnownIn : ℕ → List ℕ → Type 0
KnownIn k trace = (i : ℕ) → i < k → (1 ≤ get_or trace (16 * i) 0) × (get_or trace (16 * i) 0 ≤ 3)

others_known : (k : ℕ) (trace : List ℕ) → KnownIn (suc k) trace → KnownIn k (drop 16 trace)
others_known k trace h i l =
    let m : 16 + 16 * i ≡ 16 * suc i = omega arith in
    let e : get_or (drop 16 trace) (16 * i) 0 ≡ get_or trace (16 * suc i) 0 = get_or-drop 16 trace (16 * i) 0 ∙ ap (λ z. get_or trace z 0) m in
    let next = h (suc i) (omega arith) in
    (omega (arith, e, next.0), omega (arith, e, next.1))

events_pass : (index k : ℕ) (trace : List ℕ) → KnownIn k trace → of_events index (events k trace) clear ≡ clear
unfolding of_events events
events_pass index zero trace h = refl
events_pass index (suc k) trace h =
    let first = h 0 (omega arith) in
    rw (le-leb 1 (get_or trace 0 0) (first.0), le-leb (get_or trace 0 0) 3 (first.1))
    (events_pass (index + 1) k (drop 16 trace) (others_known k trace h))

pub accepted_traces : AcceptedTraces
unfolding of_trace
accepted_traces n w size k trace a room whole known =
    let e : length trace / 16 ≡ k = omega arith in
    let m : length trace % 16 ≡ 0 = omega arith in
    ready_passes n w fresh size _ (record { right = fresh_right a; room = room })
    ∙ rw (m, e) (events_pass 0 k trace known)
