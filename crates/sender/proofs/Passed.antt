-- The questions: what passes each of them, and what has passed them all. Assumes nothing.
use Rattle.std.proofs.Common.{◌≡◌, ℕ, ◌*◌, ◌^◌, ◌<◌, ◌≤◌, Bool, true, false, ap, ◌&&◌, ◌⊎◌, inl, inr, leb, ltb, refl, sym, ◌∙◌, arith, le-leb, lt-ltb, leb-true, ltb-true, eqb, eqb-true, eq-eqb, nat_le}
use borrow.Author.Tests.{lt-leb}
use mathlib.Core.Bool.{and-false}
use Rattle.std.specs.List.{list_all}
use Rattle.bits.proofs.Tests.{ask-passed}
use Rattle.number.specs.Number.{within}
use Rattle.orders.specs.Methods.{is_method}
use Rattle.sender.specs.declared.Station.{Station}
use Rattle.sender.specs.Ring.{submitted_after}
use Rattle.sender.specs.Sender.{Verdict, clear, no, ask, window_right, record_right, of_record, of_store, of_submission, is_stored, of_number, of_order}
use Rattle.sender.specs.Right.{Right}

-- ---- one question

pub apart : {number value : ℕ} → no number value ≡ clear → ⊥
apart e = let z : ◌≡◌ {A = ℕ} 0 1 = cc in omega arith

pub both : (a b : Bool) → (a && b) ≡ true → (a ≡ true) × (b ≡ true)
both true b e = (refl, e)
both false b e = let z : ◌≡◌ {A = ℕ} 0 1 = cc in absurd (omega arith)

-- ---- 41 and 51

module _ (n w : ℕ) (s : Station) where
  module _ (next : Verdict) where
    pub bad_modulus : n < 1 ⊎ 7 < n → no 41 0 ≡ of_record n w s next
    unfolding of_record
    bad_modulus (inl h) = rw (lt-leb 1 n h)
    bad_modulus (inr h) = rw (lt-leb n 7 h, and-false)

    module _ (n_least : 1 ≤ n) (n_most : n ≤ 7) where
      pub bad_window : {t : Bool} → t ≡ window_right n w → t ≡ false → no 51 0 ≡ of_record n w s next
      unfolding of_record
      bad_window e f = rw (le-leb 1 n n_least, le-leb n 7 n_most, sym e, f)

      module _ {t : Bool} (window : t ≡ window_right n w) (wide : t ≡ true) where
        pub bad_record : {u : Bool} → u ≡ record_right n w s → u ≡ false → no 51 0 ≡ of_record n w s next
        unfolding of_record
        bad_record e f = rw (le-leb 1 n n_least, le-leb n 7 n_most, sym window, wide, sym e, f)

        pub record_passes : {u : Bool} → u ≡ record_right n w s → u ≡ true → next ≡ of_record n w s next
        unfolding of_record
        record_passes e f = rw (le-leb 1 n n_least, le-leb n 7 n_most, sym window, wide, sym e, f)

  -- what has passed 41 and 51
  pub record_passed : {next : Verdict} → of_record n w s next ≡ clear → Right n w s × (next ≡ clear)
  unfolding of_record window_right record_right
  record_passed e =
      let a = ask-passed (within 1 7 n) apart e in
      let b = ask-passed (window_right n w) apart (a.1) in
      let c = ask-passed (record_right n w s) apart (b.1) in
      let d = both (leb 1 n) (leb n 7) (a.0) in
      let f = both (within 1 7 w) (ltb w (2 ^ n)) (b.0) in
      let g = both (leb 1 w) (leb w 7) (f.0) in
      let k = both (leb s.stored w && ltb s.cell w && ltb s.next (2 ^ n) && list_all (λ len. nat_le len 4095) s.lengths && leb s.older s.stored && is_method s.method) (is_method s.former) (c.0) in
      let l = both (leb s.stored w && ltb s.cell w && ltb s.next (2 ^ n) && list_all (λ len. nat_le len 4095) s.lengths && leb s.older s.stored) (is_method s.method) (k.0) in
      let m = both (leb s.stored w && ltb s.cell w && ltb s.next (2 ^ n) && list_all (λ len. nat_le len 4095) s.lengths) (leb s.older s.stored) (l.0) in
      let h = both (leb s.stored w && ltb s.cell w && ltb s.next (2 ^ n)) (list_all (λ len. nat_le len 4095) s.lengths) (m.0) in
      let i = both (leb s.stored w && ltb s.cell w) (ltb s.next (2 ^ n)) (h.0) in
      let j = both (leb s.stored w) (ltb s.cell w) (i.0) in (
        record {
          agreed = record { n_least = leb-true 1 n (d.0); n_most = leb-true n 7 (d.1); w_least = leb-true 1 w (g.0); w_most = leb-true w 7 (g.1); w_below = ltb-true w (2 ^ n) (f.1) };
          stored_most = leb-true s.stored w (j.0);
          cell_below = ltb-true s.cell w (j.1);
          next_below = ltb-true s.next (2 ^ n) (i.1);
          lengths_most = h.1;
          older_most = leb-true s.older s.stored (m.1);
          method_kept = l.1;
          former_kept = k.1;
        },
        c.1,
      )

  pub right_passes : (next : Verdict) → Right n w s → of_record n w s next ≡ next
  unfolding of_record window_right record_right
  right_passes next z =
      rw (
        le-leb 1 n (z.agreed.n_least),
        le-leb n 7 (z.agreed.n_most),
        le-leb 1 w (z.agreed.w_least),
        le-leb w 7 (z.agreed.w_most),
        lt-ltb w (2 ^ n) (z.agreed.w_below),
        le-leb s.stored w (z.stored_most),
        lt-ltb s.cell w (z.cell_below),
        lt-ltb s.next (2 ^ n) (z.next_below),
        z.lengths_most,
        le-leb s.older s.stored (z.older_most),
        z.method_kept,
        z.former_kept,
      )

-- ---- all questions of a call

-- what has passed 41, 51 and 6
pub record Ready (n w : ℕ) (s : Station) (size : ℕ) : Type 0 where
  pub right : Right n w s
  pub room : w * 4096 ≤ size

module _ (n w : ℕ) (s : Station) (size : ℕ) where
  pub store_passed : {next : Verdict} → of_record n w s (of_store w size next) ≡ clear → Ready n w s size × (next ≡ clear)
  store_passed e =
      let a = record_passed n w s e in
      let b = ask-passed (leb (w * 4096) size) apart (a.1) in
      (record { right = a.0; room = leb-true (w * 4096) size (b.0) }, b.1)

  pub right_behind : clear ≡ of_record n w s (of_store w size clear) → Right n w s
  right_behind e = (store_passed (sym e)).0.right

  pub ready_passes : (next : Verdict) → Ready n w s size → of_record n w s (of_store w size next) ≡ next
  ready_passes next z = right_passes n w s (of_store w size next) (z.right) ∙ rw (le-leb (w * 4096) size (z.room))

  pub submission_passed : (len : ℕ) → of_submission n w s size len ≡ clear → Ready n w s size × (len ≤ 4095) × (s.stored < w)
  unfolding of_submission
  submission_passed len e =
      let a = store_passed e in
      let b = ask-passed (leb len 4095) apart (a.1) in
      let c = ask-passed (ltb s.stored w) apart (b.1) in
      (a.0, leb-true len 4095 (b.0), ltb-true s.stored w (c.0))

  pub submission_passes : (len : ℕ) → Ready n w s size → len ≤ 4095 → s.stored < w → of_submission n w s size len ≡ clear
  unfolding of_submission
  submission_passes len z h i = ready_passes _ z ∙ rw (le-leb len 4095 h, lt-ltb s.stored w i)

  pub number_passed : (number : ℕ) → of_number n w s size number ≡ clear
      → Ready n w s size × (number < 2 ^ n) × (submitted_after n s number < s.stored)
  unfolding of_number
  number_passed number e =
      let a = store_passed e in
      let b = ask-passed (is_stored n s number) apart (a.1) in
      let c = both (ltb number (2 ^ n)) (ltb (submitted_after n s number) s.stored) (b.0) in
      (a.0, ltb-true number (2 ^ n) (c.0), ltb-true (submitted_after n s number) s.stored (c.1))

  pub number_passes : (number : ℕ) → Ready n w s size → number < 2 ^ n → submitted_after n s number < s.stored
      → of_number n w s size number ≡ clear
  unfolding of_number
  number_passes number z h i = ready_passes _ z ∙ rw (lt-ltb number (2 ^ n) h, lt-ltb (submitted_after n s number) s.stored i)

  pub number_refused : (number : ℕ) → Ready n w s size → is_stored n s number ≡ false → of_number n w s size number ≡ no 56 0
  unfolding of_number
  number_refused number z h = ready_passes _ z ∙ ap (λ t. ask t 56 0 clear) h

-- ---- an order

module _ (n w : ℕ) (s : Station) where
  pub order_passed : of_order n w s ≡ clear → Right n w s × (s.older ≡ 0)
  unfolding of_order
  order_passed e =
      let a = record_passed n w s e in
      let b = ask-passed (eqb s.older 0) apart (a.1) in
      (a.0, eqb-true s.older 0 (b.0))

  pub order_passes : Right n w s → s.older ≡ 0 → of_order n w s ≡ clear
  unfolding of_order
  order_passes z h = right_passes n w s (ask (eqb s.older 0) 67 0 clear) z ∙ rw (eq-eqb s.older 0 h)
