-- What a reader does not see changes no answer of his. Assumes nothing.
use Rattle.std.proofs.Common.{◌≡◌, ℕ, zero, suc, ◌+◌, ◌*◌, ◌/◌, ◌%◌, ◌==◌, ◌<◌, Bool, true, false, cond, nat_lt, List, [], ◌∷◌, Result, length, drop, get_or, replicate, refl, sym, ap, ap₂, ◌∙◌, arith}
use Rattle.std.proofs.lemmas.List.{get_or-drop}
use lib.Seq.{length-sets}
use Rattle.bits.specs.Calls.{Call, called}
use Rattle.number.specs.Number.{receiving}
use Rattle.sender.specs.declared.Station.{Station}
use Rattle.sender.specs.Sender as sender
use Rattle.sender.specs.Sender.{Verdict, clear, no, ask, of_record, of_store, done, submitting, store_after, submit_call, acknowledging}
use Rattle.sender.specs.History.{fresh}
use Rattle.replay.specs.declared.Event.{Event}
use Rattle.replay.specs.declared.ReplayRefusal.{ReplayRefusal}
use Rattle.replay.specs.Answers.{answer_of}
use Rattle.replay.specs.Replay.{event_of, events, trace_events, last_record, last_notes, of_events, of_trace, State, submitted, after_event, after_events, end_state, Answer, reading, by_verdict, panel_reading, service_reading}
use Rattle.replay.specs.Agreement.{Agree, PanelSeesFourBytes, ServiceSeesTheLastRecord}
use Rattle.replay.proofs.OneToOne.{answer_of_injective}

-- ---- the events

-- of so many records of two lists
abbrev AgreeIn : ℕ → List ℕ → List ℕ → Type 0
AgreeIn k t u = (i j : ℕ) → j < 4 → i < k → get_or t (16 * i + j) 0 ≡ get_or u (16 * i + j) 0

same_event : (t u : List ℕ) → ((j : ℕ) → j < 4 → get_or t j 0 ≡ get_or u j 0) → event_of t ≡ event_of u
same_event t u e =
    let a = e 0 (omega arith) in
    let b = e 1 (omega arith) in
    let c = e 2 (omega arith) in
    let d = e 3 (omega arith) in
    rw (a, b, c, d)

first_agrees : (k : ℕ) (t u : List ℕ) → AgreeIn (suc k) t u → (j : ℕ) → j < 4 → get_or t j 0 ≡ get_or u j 0
first_agrees k t u e j h =
    let m : 16 * 0 + j ≡ j = omega arith in
    sym (ap (λ z. get_or t z 0) m) ∙ e 0 j h (omega arith) ∙ ap (λ z. get_or u z 0) m

others_agree : (k : ℕ) (t u : List ℕ) → AgreeIn (suc k) t u → AgreeIn k (drop 16 t) (drop 16 u)
others_agree k t u e i j h l =
    let m : 16 + (16 * i + j) ≡ 16 * suc i + j = omega arith in
    get_or-drop 16 t (16 * i + j) 0 ∙ ap (λ z. get_or t z 0) m ∙ e (suc i) j h (omega arith) ∙ ap (λ z. get_or u z 0) (sym m)
    ∙ sym (get_or-drop 16 u (16 * i + j) 0)

same_events : (k : ℕ) (t u : List ℕ) → AgreeIn k t u → events k t ≡ events k u
unfolding events
same_events zero t u e = refl
same_events (suc k) t u e =
    ap₂ (λ (x : Event) es. x ∷ es) (same_event t u (first_agrees k t u e)) (same_events k (drop 16 t) (drop 16 u) (others_agree k t u e))

module _ {t u : List ℕ} (a : Agree t u) where
  same_trace_events : trace_events t ≡ trace_events u
  same_trace_events =
      same_events (length t / 16) t u (λ i j h l. a.bytes i j h (omega arith)) ∙ ap (λ k. events (k / 16) u) (a.one_length)

  same_verdict : (n w size : ℕ) → of_trace n w size t ≡ of_trace n w size u
  unfolding of_trace
  same_verdict n w size =
      ap₂ (λ k es. of_record n w fresh (of_store w size (ask (k % 16 == 0) 61 0 (of_events 0 es clear)))) (a.one_length) same_trace_events

  same_notes : last_record t ≡ last_record u → last_notes t ≡ last_notes u
  unfolding last_notes
  same_notes e = ap₂ (λ k l. cond (nat_lt k 16) (replicate 12 0) (drop 4 l)) (a.one_length) e

-- ---- record and awaited number go by the length of the store alone

record Alike (s s' : State) : Type 0 where
  pub station : s.station ≡ s'.station
  pub c : s.c ≡ s'.c
  pub size : length s.store ≡ length s'.store

stored-length : (a : sender.Answer) (s : Station) (store block : List ℕ) → length (store_after a s store block) ≡ length store
stored-length (done k) s store block = length-sets store (s.cell * 4096) block
stored-length (sender.refused k value) s store block = refl

module _ (n w : ℕ) {s s' : State} (z : Alike s s') (e : Event) where
  alike_submitted : (block : List ℕ) → Alike (submitted (submit_call n w s.station s.store block) s.c) (submitted (submit_call n w s'.station s'.store block) s'.c)
  alike_submitted block =
      record {
        station = ap₂ (λ (x : Station) k. (submitting n w x k (length block)).station) (z.station) (z.size);
        c = z.c;
        size =
            stored-length (submitting n w s.station (length s.store) (length block)).answer s.station s.store block ∙ z.size
            ∙ sym (stored-length (submitting n w s'.station (length s'.store) (length block)).answer s'.station s'.store block);
      }

  alike_acknowledged : Alike (record s { station = (acknowledging n w s.station (length s.store) e.number).station }) (record s' { station = (acknowledging n w s'.station (length s'.store) e.number).station })
  alike_acknowledged =
      record {
        station = ap₂ (λ (x : Station) k. (acknowledging n w x k e.number).station) (z.station) (z.size);
        c = z.c;
        size = z.size;
      }

  alike_received : Alike (record s { c = (receiving n w s.c e.number).c }) (record s' { c = (receiving n w s'.c e.number).c })
  alike_received = record { station = z.station; c = ap (λ k. (receiving n w k e.number).c) (z.c); size = z.size }

  alike_if : (t : Bool) {x x' y y' : State} → Alike x x' → Alike y y' → Alike (cond t x y) (cond t x' y')
  alike_if true a b = a
  alike_if false a b = b

  alike_after : Alike (after_event n w s e) (after_event n w s' e)
  unfolding after_event
  alike_after =
      alike_if (e.kind == 1) (alike_submitted (replicate e.len 0))
      (alike_if (e.kind == 2) alike_acknowledged (alike_if (e.kind == 3) alike_received z))

alike_end : (n w : ℕ) (es : List Event) {s s' : State} → Alike s s' → Alike (after_events n w s es) (after_events n w s' es)
unfolding after_events
alike_end n w [] z = z
alike_end n w (e ∷ es) z = alike_end n w es (alike_after n w z e)

-- ---- the answers

same_answer : {Reading : Type 0} (v : Verdict) (store other after after' : List ℕ) {r r' : Reading} → r ≡ r'
    → (by_verdict v store r after).answer ≡ (by_verdict v other r' after').answer
same_answer clear store other after after' e = ap reading e
same_answer (no number value) store other after after' e = refl

module _ (n w : ℕ) (t u store other : List ℕ) (a : Agree t u) (l : length store ≡ length other) where
  abbrev end : State
  end = end_state n w t store

  abbrev end' : State
  end' = end_state n w u other

  alike_ends : Alike end end'
  alike_ends = rw (same_trace_events a) (alike_end n w (trace_events u) (record { station = refl; c = refl; size = l }))

  same_result : {Reading : Type 0} (r r' : Result Reading ReplayRefusal) (after after' : List ℕ) {x y : Reading} → x ≡ y
      → called (answer_of r) after ≡ by_verdict (of_trace n w (length store) t) store x end.store
      → called (answer_of r') after' ≡ by_verdict (of_trace n w (length other) u) other y end'.store → r ≡ r'
  same_result {Reading} r r' after after' {x} {y} same e e' =
      answer_of_injective r r'
      (ap (λ (c : Call (Answer Reading)). c.answer) e
      ∙ ap (λ v. (by_verdict v store x end.store).answer) (same_verdict a n w (length store) ∙ ap (λ k. of_trace n w k u) l)
      ∙ same_answer (of_trace n w (length other) u) store other end.store end'.store same
      ∙ sym (ap (λ (c : Call (Answer Reading)). c.answer) e'))

-- document 02, card 9
pub panel_sees_four_bytes : PanelSeesFourBytes
panel_sees_four_bytes n w t u store other after after' r r' a l e e' =
    let z = alike_ends n w t u store other a l in
    let same : panel_reading (end_state n w t store) ≡ panel_reading (end_state n w u other) =
    ap₂ (λ (s : Station) c. record { station = s; c = c }) (z.station) (z.c) in
    same_result n w t u store other a l r r' after after' same e e'

pub service_sees_the_last_record : ServiceSeesTheLastRecord
service_sees_the_last_record n w t u store other after after' r r' a last l e e' =
    let z = alike_ends n w t u store other a l in
    let same : service_reading (last_notes t) (end_state n w t store) ≡ service_reading (last_notes u) (end_state n w u other) =
    ap₂ (λ (s : Station) c. service_reading (last_notes t) (record { station = s; store = []; c = c })) (z.station) (z.c)
    ∙ ap (λ notes. service_reading notes (end_state n w u other)) (same_notes a last) in
    same_result n w t u store other a l r r' after after' same e e'
