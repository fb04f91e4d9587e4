-- Every call has a result as its contract promises it: the questions are answered no by refusals alone. Assumes nothing.
use Rattle.std.proofs.Common.{◌≡◌, ℕ, ◌-◌, ◌*◌, Bool, true, false, cond, ◌==◌, List, length, Ok, Err, nat_le, nat_lt, refl, sym}
use lib.Seq.{sets}
use Rattle.bits.specs.Calls.{called}
use Rattle.number.specs.Number.{within}
use Rattle.orders.specs.declared.CyclicMethod.{CyclicMethod}
use Rattle.sender.specs.declared.Station.{Station}
use Rattle.sender.specs.declared.SenderRefusal.{SenderRefusal}
use Rattle.sender.specs.declared.SenderRefusal.TheVariants.{Modulus, Record, TooShort, TooLong, Full, NotStored, OrderPending}
use Rattle.sender.specs.declared.SenderResult.{SenderResult}
use Rattle.sender.specs.Ring.{submitted_after}
use Rattle.sender.specs.Sender.{Verdict, clear, no, window_right, record_right, of_record, of_store, of_submission, is_stored, of_number, of_order, with_block, with_latest, submit_call, acknowledging, with_method, ordering}
use Rattle.sender.specs.Answers.{number_of, value_of, outcome_of}
use Rattle.sender.proofs.Answering.{submit_refused, submit_done, acknowledge_refused, acknowledge_done, order_refused, order_done}

-- ---- the questions

data Told : Verdict → Type 0 where
  passed : Told clear
  told : (r : SenderRefusal) → Told (no (number_of r) (value_of r))

asked : (holds : Bool) (r : SenderRefusal) {next : Verdict} → Told next → Told (cond holds next (no (number_of r) (value_of r)))
asked true r t = t
asked false r t = told r

module _ (n w : ℕ) (s : Station) (size : ℕ) where
  told_store : {next : Verdict} → Told next → Told (of_record n w s (of_store w size next))
  unfolding of_record
  told_store t =
      asked (within 1 7 n) Modulus
      (asked (window_right n w) Record (asked (record_right n w s) Record (asked (nat_le (w * 4096) size) (TooShort (w * 4096)) t)))

  told_submission : (len : ℕ) → Told (of_submission n w s size len)
  unfolding of_submission
  told_submission len = told_store (asked (nat_le len 4095) TooLong (asked (nat_lt s.stored w) Full passed))

  told_number : (number : ℕ) → Told (of_number n w s size number)
  unfolding of_number
  told_number number = told_store (asked (is_stored n s number) NotStored passed)

told_order : (n w : ℕ) (s : Station) → Told (of_order n w s)
unfolding of_order of_record
told_order n w s =
    asked (within 1 7 n) Modulus
    (asked (window_right n w) Record (asked (record_right n w s) Record (asked (s.older == 0) OrderPending passed)))

-- ---- the calls

pub record Submission (n w : ℕ) (s : Station) (store block : List ℕ) : Type 0 where
  pub result : SenderResult
  pub after : List ℕ
  pub meets : called (outcome_of result) after ≡ submit_call n w s store block

pub submission : (n w : ℕ) (s : Station) (store block : List ℕ) → Submission n w s store block
submission n w s store block = go (told_submission n w s (length store) (length block)) refl
  where
    go : {v : Verdict} → Told v → of_submission n w s (length store) (length block) ≡ v → Submission n w s store block
    go passed e =
        record {
          result = record { answer = Ok s.next; after = with_block n w s (length block) };
          after = sets store (s.cell * 4096) block;
          meets = submit_done n w s store block (sym e) refl refl;
        }
    go (told r) e =
        record {
          result = record { answer = Err r; after = s };
          after = store;
          meets = submit_refused n w s store block refl (sym e);
        }

pub record Acknowledgement (n w : ℕ) (s : Station) (size number : ℕ) : Type 0 where
  pub result : SenderResult
  pub meets : outcome_of result ≡ acknowledging n w s size number

pub acknowledgement : (n w : ℕ) (s : Station) (size number : ℕ) → Acknowledgement n w s size number
acknowledgement n w s size number = go (told_number n w s size number) refl
  where
    go : {v : Verdict} → Told v → of_number n w s size number ≡ v → Acknowledgement n w s size number
    go passed e =
        let left = submitted_after n s number in
        record {
          result = record { answer = Ok (s.stored - left); after = with_latest s left };
          meets = acknowledge_done n w s size number (sym e) refl refl;
        }
    go (told r) e =
        record { result = record { answer = Err r; after = s }; meets = acknowledge_refused n w s size number refl (sym e) }

pub record Change (n w : ℕ) (s : Station) (m : CyclicMethod) : Type 0 where
  pub result : SenderResult
  pub meets : outcome_of result ≡ ordering n w s m

pub change : (n w : ℕ) (s : Station) (m : CyclicMethod) → Change n w s m
change n w s m = go (told_order n w s) refl
  where
    go : {v : Verdict} → Told v → of_order n w s ≡ v → Change n w s m
    go passed e =
        record { result = record { answer = Ok s.next; after = with_method s m }; meets = order_done n w s m (sym e) refl }
    go (told r) e = record { result = record { answer = Err r; after = s }; meets = order_refused n w s m refl (sym e) }
