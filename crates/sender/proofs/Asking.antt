-- The questions as code asks them: behind those that were passed, the others. Assumes nothing.
use Rattle.std.proofs.Common.{◌≡◌, ℕ, ◌*◌, ◌^◌, ◌<◌, ◌≤◌, le-leb, lt-ltb, le-ltb, eq-eqb, ne_eqb}
use borrow.Author.Tests.{lt-leb}
use Rattle.sender.specs.declared.Station.{Station}
use Rattle.sender.specs.Ring.{submitted_after}
use Rattle.sender.specs.Sender.{Verdict, clear, no, of_record, of_store, of_submission, of_number, of_order}

module _ (n w : ℕ) (s : Station) (size : ℕ) where
  -- ---- behind 41 and 51

  module _ (behind : (next : Verdict) → next ≡ of_record n w s next) (next : Verdict) where
    pub store_short : size < w * 4096 → no 6 (w * 4096) ≡ of_record n w s (of_store w size next)
    store_short h = rw (lt-leb (w * 4096) size h) (behind (no 6 (w * 4096)))

    pub store_enough : w * 4096 ≤ size → next ≡ of_record n w s (of_store w size next)
    store_enough h = rw (le-leb (w * 4096) size h) (behind next)

  -- ---- behind 41, 51 and 6

  module _ (behind : (next : Verdict) → next ≡ of_record n w s (of_store w size next)) where
    pub block_long : (len : ℕ) → 4095 < len → no 57 0 ≡ of_submission n w s size len
    unfolding of_submission
    block_long len h = rw (lt-leb len 4095 h) (behind (no 57 0))

    pub store_full : (len : ℕ) → len ≤ 4095 → w ≤ s.stored → no 55 0 ≡ of_submission n w s size len
    unfolding of_submission
    store_full len h i = rw (le-leb len 4095 h, le-ltb s.stored w i) (behind (no 55 0))

    pub block_fits : (len : ℕ) → len ≤ 4095 → s.stored < w → clear ≡ of_submission n w s size len
    unfolding of_submission
    block_fits len h i = rw (le-leb len 4095 h, lt-ltb s.stored w i) (behind clear)

    pub number_over : (number : ℕ) → 2 ^ n ≤ number → no 56 0 ≡ of_number n w s size number
    unfolding of_number
    number_over number h = rw (le-ltb number (2 ^ n) h) (behind (no 56 0))

    pub number_freed : (number : ℕ) → number < 2 ^ n → s.stored ≤ submitted_after n s number → no 56 0 ≡ of_number n w s size number
    unfolding of_number
    number_freed number h i = rw (lt-ltb number (2 ^ n) h, le-ltb (submitted_after n s number) s.stored i) (behind (no 56 0))

    pub number_stored : (number : ℕ) → number < 2 ^ n → submitted_after n s number < s.stored → clear ≡ of_number n w s size number
    unfolding of_number
    number_stored number h i = rw (lt-ltb number (2 ^ n) h, lt-ltb (submitted_after n s number) s.stored i) (behind clear)

-- ---- an order

module _ (n w : ℕ) (s : Station) (behind : (next : Verdict) → next ≡ of_record n w s next) where
  pub order_pending : (s.older ≡ 0 → ⊥) → no 67 0 ≡ of_order n w s
  unfolding of_order
  order_pending h = rw (ne_eqb s.older 0 h) (behind (no 67 0))

  pub order_free : s.older ≡ 0 → clear ≡ of_order n w s
  unfolding of_order
  order_free h = rw (eq-eqb s.older 0 h) (behind clear)
