-- What each call answers, from the questions as they were answered. Assumes nothing.
use Rattle.std.proofs.Common.{◌≡◌, ℕ, ◌+◌, ◌-◌, ◌*◌, ◌≤◌, List, ◌++◌, length, take, drop, Ok, sym, ap, ap₂, ◌∙◌, append_assoc}
use lib.Seq.{sets, sets-eq, drop-drop}
use borrow.Rule.Slice.PartMut.{put_mid}
use Rattle.bits.specs.Calls.{called}
use Rattle.orders.specs.declared.CyclicMethod.{CyclicMethod}
use Rattle.sender.specs.declared.Station.{Station}
use Rattle.sender.specs.Ring.{submitted_after}
use Rattle.sender.specs.Sender.{storing, freeing, Outcome, clear, no, of_submission, of_number, of_order, refused, by_verdict, submitting, after_submitting, submit_call, with_latest, acknowledging, with_method, changing, ordering}
use Rattle.sender.specs.Answers.{told}

-- a part of a slice copied over
pub copied : (at : ℕ) (block store last : List ℕ) {m : ℕ} → at + length block ≤ length store → m ≡ length block → last ≡ block
    → put_mid at m store last ≡ sets store at block
copied at block store last {m} fits e f =
    ap₂ (λ k l. put_mid at k store l) e f
    ∙ sym (append_assoc (take at store) block (drop (length block) (drop at store)))
    ∙ ap (λ x. take at store ++ block ++ x) (drop-drop (length block) at store)
    ∙ sym (sets-eq block store at fits)

module _ (n w : ℕ) (s : Station) where
  module _ (store block : List ℕ) where
    pub submit_refused : {number value : ℕ} {o : Outcome} → o ≡ record { answer = refused number value; station = s }
        → no number value ≡ of_submission n w s (length store) (length block) → called o store ≡ submit_call n w s store block
    unfolding submitting
    submit_refused e q =
        ap (λ (x : Outcome). called x store) e ∙ ap (λ v. after_submitting (by_verdict v s (storing n w s (length block))) s store block) q

    pub submit_done : clear ≡ of_submission n w s (length store) (length block) → {o : Outcome} {store' : List ℕ}
        → o ≡ storing n w s (length block) → store' ≡ sets store (s.cell * 4096) block
        → called o store' ≡ submit_call n w s store block
    unfolding submitting
    submit_done q e f =
        ap₂ (λ (x : Outcome) l. called x l) e f ∙ ap (λ v. after_submitting (by_verdict v s (storing n w s (length block))) s store block) q

  module _ (size number : ℕ) where
    pub acknowledge_refused : {k value : ℕ} {o : Outcome} → o ≡ record { answer = refused k value; station = s }
        → no k value ≡ of_number n w s size number → o ≡ acknowledging n w s size number
    unfolding acknowledging
    acknowledge_refused e q = e ∙ ap (λ v. by_verdict v s (freeing s (submitted_after n s number))) q

    pub acknowledge_done : clear ≡ of_number n w s size number → {left : ℕ} {after : Station} → left ≡ submitted_after n s number
        → after ≡ with_latest s left → told (Ok (s.stored - left)) after ≡ acknowledging n w s size number
    unfolding acknowledging
    acknowledge_done q {left} e f =
        ap (told (Ok (s.stored - left))) f ∙ ap (λ k. told (Ok (s.stored - k)) (with_latest s k)) e
        ∙ ap (λ v. by_verdict v s (freeing s (submitted_after n s number))) q

  module _ (m : CyclicMethod) where
    pub order_refused : {k value : ℕ} {o : Outcome} → o ≡ record { answer = refused k value; station = s } → no k value ≡ of_order n w s
        → o ≡ ordering n w s m
    unfolding ordering
    order_refused e q = e ∙ ap (λ v. by_verdict v s (changing s m)) q

    pub order_done : clear ≡ of_order n w s → {after : Station} → after ≡ with_method s m → told (Ok s.next) after ≡ ordering n w s m
    unfolding ordering
    order_done q e = ap (told (Ok s.next)) e ∙ ap (λ v. by_verdict v s (changing s m)) q
