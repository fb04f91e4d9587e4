-- What a call answers, from the number check behind its questions. Assumes nothing.
use Rattle.std.proofs.Common.{◌≡◌, ℕ, ◌+◌, ◌%◌, ◌^◌, ◌<◌, ◌≤◌, false, true, ◌⊎◌, inl, inr, List, length, Ok, Err, arith, refl, sym, ap, ap₂, ◌∙◌, le-leb}
use borrow.Author.Tests.{lt-leb}
use mathlib.Core.Bool.{and-false}
use Rattle.bits.specs.Calls.{Call, called}
use Rattle.number.specs.Number as number
use Rattle.number.specs.Number.{Verdict, awaited_after, outcome, receiving, verdict_for}
use Rattle.number.specs.Answers as numbers
use Rattle.number.specs.declared.NumberRefusal.{NumberRefusal}
use Rattle.number.specs.declared.NumberRefusal.TheVariants as refusal
use Rattle.number.specs.declared.NumberResult.{NumberResult}
use Rattle.number.specs.declared.Verdict as verdict
use Rattle.number.specs.declared.Verdict.TheVariants.{New, Repeat, Lost}
use Rattle.block.specs.declared.Link.{Link}
use Rattle.block.specs.Answers.{Numbers, block, refused, after_reading, read_call}
use Rattle.block.specs.Read as reads
use Rattle.block.specs.Read.{ReadAnswer, read_output}
use Rattle.orders.specs.declared.CyclicMethod.{CyclicMethod}
use Rattle.orders.specs.Methods.{link_of}
use Rattle.receiver.specs.declared.Receiver.{Receiver}
use Rattle.receiver.specs.declared.Judged.{Judged}
use Rattle.receiver.specs.Receiver.{record_right, verdict_on, awaiting, read_under, on_line, noting, on_order, Outcome, OrderAnswer, not_noted, telling_order, on_block, telling_block}
use Rattle.receiver.specs.Answers.{number_of, of_number_refusal, verdict_of, judged_of, read_told, after_telling, block_call}

-- the number check's answers in its own numbers, and here
same_verdict : (v : verdict.Verdict) → numbers.verdict_of (Ok v) ≡ verdict_of v
same_verdict New = refl
same_verdict Repeat = refl
same_verdict Lost = refl

same_refusal : (x : NumberRefusal) → numbers.verdict_of (Err x) ≡ number.refused (number_of (of_number_refusal x))
same_refusal refusal.Modulus = refl
same_refusal refusal.Window = refl
same_refusal refusal.Awaited = refl
same_refusal refusal.Received = refl

module _ (r : Receiver) (k : ℕ) where
  -- ---- 41 and 51

  by_verdict : {v : Verdict} → verdict_on r k ≡ v → outcome r.n r.w r.c v ≡ outcome r.n r.w r.c (verdict_on r k)
  by_verdict e = sym (ap (outcome r.n r.w r.c) e)

  pub bad_modulus : r.n < 1 ⊎ 7 < r.n → outcome r.n r.w r.c (number.refused 41) ≡ outcome r.n r.w r.c (verdict_on r k)
  unfolding verdict_on
  bad_modulus (inl h) = by_verdict (rw (lt-leb 1 r.n h))
  bad_modulus (inr h) = by_verdict (rw (lt-leb r.n 7 h, and-false))

  module _ (n_least : 1 ≤ r.n) (n_most : r.n ≤ 7) where
    pub bad_record : record_right r ≡ false → outcome r.n r.w r.c (number.refused 51) ≡ outcome r.n r.w r.c (verdict_on r k)
    unfolding verdict_on
    bad_record h = by_verdict (rw (le-leb 1 r.n n_least, le-leb r.n 7 n_most, h))

    -- behind them it is the number check
    pub record_passes : record_right r ≡ true → verdict_on r k ≡ verdict_for r.n r.w r.c k
    unfolding verdict_on
    record_passes h = rw (le-leb 1 r.n n_least, le-leb r.n 7 n_most, h)

    -- as the number check answers
    module _ (received : NumberResult) (e : numbers.outcome_of received ≡ receiving r.n r.w r.c k) (h : record_right r ≡ true) where
      by_check : {v : Verdict} → numbers.verdict_of received.answer ≡ v → v ≡ verdict_on r k
      unfolding receiving
      by_check f = sym f ∙ ap (λ (o : number.Outcome). o.verdict) e ∙ sym (record_passes h)

      c_after : received.after.c ≡ awaited_after r.n r.c (verdict_on r k)
      unfolding receiving
      c_after = ap (λ (o : number.Outcome). o.c) e ∙ ap (awaited_after r.n r.c) (sym (record_passes h))

      pub check_answered : (v : verdict.Verdict) → received.answer ≡ Ok v
          → judged_of r (Ok (record { verdict = v; c = received.after.c })) ≡ outcome r.n r.w r.c (verdict_on r k)
      check_answered v f =
          ap₂ (λ (x : Verdict) c. record { verdict = x; n = r.n; w = r.w; c = c }) (by_check (ap numbers.verdict_of f ∙ same_verdict v)) c_after

      pub check_refused : (x : NumberRefusal) → received.answer ≡ Err x
          → outcome r.n r.w r.c (number.refused (number_of (of_number_refusal x))) ≡ outcome r.n r.w r.c (verdict_on r k)
      check_refused x f = ap (outcome r.n r.w r.c) (by_check (ap numbers.verdict_of f ∙ same_refusal x))

  -- ---- what was judged

  module _ (j : Judged) (e : judged_of r (Ok j) ≡ outcome r.n r.w r.c (verdict_on r k)) where
    pub verdict_judged : verdict_of j.verdict ≡ verdict_on r k
    verdict_judged = ap (λ (o : number.Outcome). o.verdict) e

    pub told_as : {v : verdict.Verdict} → j.verdict ≡ v → verdict_of v ≡ verdict_on r k
    told_as f = sym (ap verdict_of f) ∙ verdict_judged

    pub moved_on : j.verdict ≡ New → j.c ≡ (r.c + 1) % 2 ^ r.n
    moved_on f = ap (λ (o : number.Outcome). o.c) e ∙ ap (awaited_after r.n r.c) (sym (told_as f))

  -- ---- an order

  module _ (m : CyclicMethod) where
    pub order_refused : {q : ℕ} → number.refused q ≡ verdict_on r k → {o : Outcome OrderAnswer} → o ≡ record { answer = not_noted q; receiver = r }
        → o ≡ telling_order r k m
    unfolding telling_order
    order_refused e f = f ∙ ap (on_order r k m) e

    judged_noting : (v : verdict.Verdict) → noting r k m ≡ on_order r k m (verdict_of v)
    judged_noting New = refl
    judged_noting Repeat = refl
    judged_noting Lost = refl

    pub order_judged : (v : verdict.Verdict) → verdict_of v ≡ verdict_on r k → noting r k m ≡ telling_order r k m
    unfolding telling_order
    order_judged v e = judged_noting v ∙ ap (on_order r k m) e

  -- ---- a block

  module _ (line out : List ℕ) where
    pub block_judged : {v : Verdict} → v ≡ verdict_on r k → after_telling (on_block r line (length out) v) out ≡ block_call r k line out
    unfolding telling_block
    block_judged e = ap (λ v. after_telling (on_block r line (length out) v) out) e

-- what is read, under the link of the record
pub line_read : (r : Receiver) (line out after : List ℕ) {l : Link} {numbers : Numbers} → l ≡ link_of r.method
    → called numbers after ≡ read_call l.code l.method l.parity line out
    → called numbers after ≡ after_reading (read_under (link_of r.method) line (length out)) out
line_read r line out after {l} e f = f ∙ ap (λ (x : Link). read_call x.code x.method x.parity line out) e

-- a line that was taken, and one that was refused
module _ (r : Receiver) (out after : List ℕ) where
  pub line_taken : (a : ReadAnswer) {shape end header text counted : ℕ} {x : Receiver}
      → called (block shape end header text counted) after ≡ after_reading a out → x ≡ awaiting r ((r.c + 1) % 2 ^ r.n) r.waiting r.number
      → called (record { answer = read_told (block shape end header text counted); receiver = x }) after ≡ after_telling (on_line r a) out
  line_taken (reads.taken parts) e f =
      ap₂ (λ (c : Call Numbers) (x : Receiver). called (record { answer = read_told c.answer; receiver = x }) c.output) e f
  line_taken (reads.refusal q value) e f =
      let g = ap (λ (c : Call Numbers). c.answer) e in let z : ◌≡◌ {A = ℕ} 0 1 = cc in absurd (omega arith)

  pub line_refused : (a : ReadAnswer) {q value : ℕ} → called (refused q value) after ≡ after_reading a out
      → called (record { answer = read_told (refused q value); receiver = r }) after ≡ after_telling (on_line r a) out
  unfolding read_output
  line_refused (reads.taken parts) e =
      let g = ap (λ (c : Call Numbers). c.answer) e in let z : ◌≡◌ {A = ℕ} 0 1 = cc in absurd (omega arith)
  line_refused (reads.refusal q value) e = ap (λ (c : Call Numbers). called (record { answer = read_told c.answer; receiver = r }) c.output) e
