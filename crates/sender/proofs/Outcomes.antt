-- What an answer says of the questions, the record and the store; a refused call alters nothing. Assumes nothing.
use Rattle.std.proofs.Common.{◌≡◌, ℕ, ◌-◌, ◌*◌, List, length, Result, Ok, Err, refl, sym, ap, ◌∙◌, arith}
use lib.Seq.{sets}
use Rattle.bits.specs.Calls as calls
use Rattle.bits.specs.Calls.{called}
use Rattle.orders.specs.declared.CyclicMethod.{CyclicMethod}
use Rattle.sender.specs.declared.Station.{Station}
use Rattle.sender.specs.declared.SenderRefusal.{SenderRefusal}
use Rattle.sender.specs.Ring.{submitted_after}
use Rattle.sender.specs.Sender.{storing, freeing, Verdict, clear, no, of_submission, of_number, of_order, Answer, done, refused, Outcome, by_verdict, with_block, submitting, store_after, submit_call, with_latest, acknowledging, with_method, changing, ordering}
use Rattle.sender.specs.History.{AltersNothing}
use Rattle.sender.specs.Answers.{number_of, value_of, answer_of, told}

-- ---- the outcome of a verdict

by_done : (v : Verdict) (s : Station) (o : Outcome) {after : Station} {a : Result ℕ SenderRefusal} {k : ℕ} → told a after ≡ by_verdict v s o → a ≡ Ok k
    → (v ≡ clear) × (done k ≡ o.answer) × (after ≡ o.station)
by_done clear s o e q = (refl, sym (ap answer_of q) ∙ ap (λ (x : Outcome). x.answer) e, ap (λ (x : Outcome). x.station) e)
by_done (no number value) s o {k = k} e q =
    let c : done k ≡ refused number value = sym (ap answer_of q) ∙ ap (λ (x : Outcome). x.answer) e in
    absurd (let z : ◌≡◌ {A = ℕ} 0 1 = cc in omega arith)

by_err : (v : Verdict) (s : Station) (o : Outcome) {after : Station} {a : Result ℕ SenderRefusal} {r : SenderRefusal} {k : ℕ} → o.answer ≡ done k
    → told a after ≡ by_verdict v s o → a ≡ Err r → after ≡ s
by_err clear s o {r = r} {k = k} d e q =
    let c : refused (number_of r) (value_of r) ≡ done k = sym (ap answer_of q) ∙ ap (λ (x : Outcome). x.answer) e ∙ d in
    absurd (let z : ◌≡◌ {A = ℕ} 0 1 = cc in omega arith)
by_err (no number value) s o d e q = ap (λ (x : Outcome). x.station) e

-- ---- a submission

module _ (n w : ℕ) (s : Station) (store block : List ℕ) (a : Result ℕ SenderRefusal) {s' : Station} {store' : List ℕ}
    (e : called (told a s') store' ≡ submit_call n w s store block) where
  outcome : told a s' ≡ submitting n w s (length store) (length block)
  outcome = ap (λ (c : calls.Call Outcome). c.answer) e

  output : store' ≡ store_after (answer_of a) s store block
  output =
      ap (λ (c : calls.Call Outcome). c.output) e
      ∙ ap (λ (x : Answer). store_after x s store block) (sym (ap (λ (x : Outcome). x.answer) outcome))

  pub submission_done : {k : ℕ} → a ≡ Ok k
      → (of_submission n w s (length store) (length block) ≡ clear) × (k ≡ s.next) × (s' ≡ with_block n w s (length block))
      × (store' ≡ sets store (s.cell * 4096) block)
  unfolding submitting
  submission_done {k} q =
      let f = by_done (of_submission n w s (length store) (length block)) s (storing n w s (length block)) outcome q in
      let same : done k ≡ done s.next = f.1 in
      let number : k ≡ s.next = cc in
      (f.0, number, f.2, output ∙ ap (λ (x : Result ℕ SenderRefusal). store_after (answer_of x) s store block) q)

  pub submission_refused : {r : SenderRefusal} → a ≡ Err r → (s' ≡ s) × (store' ≡ store)
  unfolding submitting
  submission_refused q = (
    by_err (of_submission n w s (length store) (length block)) s (storing n w s (length block)) refl outcome q,
    output ∙ ap (λ (x : Result ℕ SenderRefusal). store_after (answer_of x) s store block) q,
  )

-- ---- an acknowledgement

module _ (n w : ℕ) (s : Station) (size number : ℕ) (a : Result ℕ SenderRefusal) {s' : Station} (e : told a s' ≡ acknowledging n w s size number) where
  pub acknowledgement_done : {k : ℕ} → a ≡ Ok k
      → (of_number n w s size number ≡ clear) × (k ≡ s.stored - submitted_after n s number) × (s' ≡ with_latest s (submitted_after n s number))
  unfolding acknowledging
  acknowledgement_done {k} q =
      let f = by_done (of_number n w s size number) s (freeing s (submitted_after n s number)) e q in
      let same : done k ≡ done (s.stored - submitted_after n s number) = f.1 in
      let count : k ≡ s.stored - submitted_after n s number = cc in
      (f.0, count, f.2)

  pub acknowledgement_refused : {r : SenderRefusal} → a ≡ Err r → s' ≡ s
  unfolding acknowledging
  acknowledgement_refused q = by_err (of_number n w s size number) s (freeing s (submitted_after n s number)) refl e q

-- ---- an order

module _ (n w : ℕ) (s : Station) (m : CyclicMethod) (a : Result ℕ SenderRefusal) {s' : Station} (e : told a s' ≡ ordering n w s m) where
  pub order_done : {k : ℕ} → a ≡ Ok k → (of_order n w s ≡ clear) × (k ≡ s.next) × (s' ≡ with_method s m)
  unfolding ordering
  order_done {k} q =
      let f = by_done (of_order n w s) s (changing s m) e q in
      let same : done k ≡ done s.next = f.1 in
      let number : k ≡ s.next = cc in
      (f.0, number, f.2)

  pub order_refused : {r : SenderRefusal} → a ≡ Err r → s' ≡ s
  unfolding ordering
  order_refused q = by_err (of_order n w s) s (changing s m) refl e q

-- document 02, card 6: a refused call alters nothing
pub alters_nothing : AltersNothing
alters_nothing =
    record {
      submitting = λ n w s store block after r x e q. submission_refused n w s store block r.answer e q;
      acknowledging = λ n w s size number r x e q. acknowledgement_refused n w s size number r.answer e q;
      ordering = λ n w s m r x e q. order_refused n w s m r.answer e q;
    }
