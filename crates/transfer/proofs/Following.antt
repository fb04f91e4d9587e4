-- The receiver's record follows the sender's: t blocks were taken, and `first` blocks stand before the first that goes under the last
-- order's method. Assumes nothing.
use Rattle.std.proofs.Common.{◌≡◌, ℕ, ◌+◌, ◌-◌, ◌%◌, ◌^◌, ◌<◌, ◌≤◌, Bool, true, false, cond, ltb, refl, sym, ap, ◌∙◌, arith, mod-lt, lt-ltb, le-ltb, ltb-true, ltb-false, eq-eqb, ne_eqb, pow_pos}
use mathlib.Core.Bool.{or-true}
use native.Mathlib.Nat.{mod-add-mod}
use Rattle.number.specs.Number.{difference}
use Rattle.number.proofs.Residues.{residue_unique}
use Rattle.orders.specs.Methods.{is_method}
use Rattle.receiver.specs.declared.Receiver.{Receiver}
use Rattle.receiver.specs.Receiver.{awaiting, record_right}

-- two numbers less than m apart have different residues
pub apart : (m a b : ℕ) → a < b → b < a + m → b % m ≡ a % m → ⊥
apart m a b l h e =
    let k = b - a in
    let s : a + k ≡ b = omega arith in
    let o : a + 0 ≡ a = omega arith in
    let d : 0 ≡ difference m a a = residue_unique m a a 0 (record { below = omega arith; congruent = ap (λ z. z % m) o }) in
    let f : k ≡ difference m a a = residue_unique m a a k (record { below = omega arith; congruent = ap (λ z. z % m) s ∙ e }) in
    omega arith

pub apart-either : (m a b : ℕ) → a < b + m → b < a + m → a % m ≡ b % m → a ≡ b
apart-either m a b h l e = go (ltb a b) (ltb b a) refl refl
  where
    go : (t u : Bool) → ltb a b ≡ t → ltb b a ≡ u → a ≡ b
    go true u p q = absurd (apart m a b (ltb-true a b p) l (sym e))
    go false true p q = absurd (apart m b a (ltb-true b a q) h e)
    go false false p q =
        let i : b ≤ a = ltb-false a b p in
        let j : a ≤ b = ltb-false b a q in
        omega arith

module _ (n w old new : ℕ) where
  abbrev m : ℕ
  m = 2 ^ n

  -- while the first `first` blocks are not all taken, the order waits; then its method is in force
  abbrev pub after_taking : ℕ → ℕ → Receiver
  after_taking first t =
      record {
        n = n;
        w = w;
        c = t % m;
        method = cond (ltb t first) old new;
        waiting = cond (ltb t first) new 0;
        number = cond (ltb t first) (first % m) 0;
      }

  module _ (first t : ℕ) where
    pub before : t < first → after_taking first t ≡ record { n = n; w = w; c = t % m; method = old; waiting = new; number = first % m }
    before h = rw (lt-ltb t first h)

    pub behind : first ≤ t → after_taking first t ≡ record { n = n; w = w; c = t % m; method = new; waiting = 0; number = 0 }
    behind h = rw (le-ltb t first h)

  -- the number of the record stays where it is not due, and where it is the method changes
  module _ (r : Receiver) (named : new ≡ 0 → ⊥) where
    not_due : (c number : ℕ) → (number ≡ c → ⊥) → awaiting r c new number ≡ record r { c = c; waiting = new; number = number }
    not_due c number ne = rw (ne_eqb new 0 named, ne_eqb number c ne)

    due : (c number : ℕ) → number ≡ c → awaiting r c new number ≡ record r { c = c; method = new; waiting = 0; number = 0 }
    due c number e = rw (ne_eqb new 0 named, eq-eqb number c e)

  -- told at once: t of the `first` blocks are taken, and no order waits
  module _ (first t : ℕ) (named : new ≡ 0 → ⊥) (l : t ≤ first) (h : first < t + 2 ^ n) where
    pub told_at_once : {r : Receiver} → r ≡ record { n = n; w = w; c = t % m; method = old; waiting = 0; number = 0 }
        → awaiting r r.c new (first % m) ≡ after_taking first t
    told_at_once e = ap (λ (r : Receiver). awaiting r r.c new (first % m)) e ∙ go (ltb t first) refl
      where
        r : Receiver
        r = record { n = n; w = w; c = t % m; method = old; waiting = 0; number = 0 }

        go : (u : Bool) → ltb t first ≡ u → awaiting r (t % m) new (first % m) ≡ after_taking first t
        go true p =
            let i : t < first = ltb-true t first p in
            not_due r named (t % m) (first % m) (apart m t first i h) ∙ sym (before first t i)
        go false p =
            let i : first ≤ t = ltb-false t first p in
            let j : first ≡ t = omega arith in
            due r named (t % m) (first % m) (ap (λ z. z % m) j) ∙ sym (behind first t i)

  -- one more block is taken
  module _ (first t : ℕ) (named : t < first → new ≡ 0 → ⊥) (h : first < t + 1 + 2 ^ n) where
    next : (t % m + 1) % m ≡ (t + 1) % m
    next = mod-add-mod t m 1

    waited : t < first
        → awaiting (record { n = n; w = w; c = t % m; method = old; waiting = new; number = first % m }) ((t + 1) % m) new (first % m) ≡ after_taking first (t + 1)
    waited l = go (ltb (t + 1) first) refl
      where
        r : Receiver
        r = record { n = n; w = w; c = t % m; method = old; waiting = new; number = first % m }

        go : (u : Bool) → ltb (t + 1) first ≡ u → awaiting r ((t + 1) % m) new (first % m) ≡ after_taking first (t + 1)
        go true p =
            let i : t + 1 < first = ltb-true (t + 1) first p in
            not_due r (named l) ((t + 1) % m) (first % m) (apart m (t + 1) first i h) ∙ sym (before first (t + 1) i)
        go false p =
            let i : first ≤ t + 1 = ltb-false (t + 1) first p in
            let j : first ≡ t + 1 = omega arith in
            due r (named l) ((t + 1) % m) (first % m) (ap (λ z. z % m) j) ∙ sym (behind first (t + 1) i)

    pub one_more_taken : {r : Receiver} → r ≡ after_taking first t → awaiting r ((r.c + 1) % m) r.waiting r.number ≡ after_taking first (t + 1)
    one_more_taken {r} e = go (ltb t first) refl
      where
        go : (u : Bool) → ltb t first ≡ u → awaiting r ((r.c + 1) % m) r.waiting r.number ≡ after_taking first (t + 1)
        go true p =
            let i : t < first = ltb-true t first p in
            let x : Receiver = record { n = n; w = w; c = t % m; method = old; waiting = new; number = first % m } in
            ap (λ (r : Receiver). awaiting r ((r.c + 1) % m) r.waiting r.number) (e ∙ before first t i)
            ∙ ap (λ k. awaiting x k new (first % m)) next ∙ waited i
        go false p =
            let i : first ≤ t = ltb-false t first p in
            let j : first ≤ t + 1 = omega arith in
            let x : Receiver = record { n = n; w = w; c = t % m; method = new; waiting = 0; number = 0 } in
            ap (λ (r : Receiver). awaiting r ((r.c + 1) % m) r.waiting r.number) (e ∙ behind first t i)
            ∙ ap (λ k. awaiting x k 0 0) next ∙ sym (behind first (t + 1) j)

  -- such a record passes 51
  module _ (first t : ℕ) (old_kept : is_method old ≡ true) (new_kept : is_method new ≡ true) (h : first < t + 2 ^ n) where
    pub passes_51 : {r : Receiver} → r ≡ after_taking first t → record_right r ≡ true
    unfolding record_right
    passes_51 {r} e = go (ltb t first) refl
      where
        go : (u : Bool) → ltb t first ≡ u → record_right r ≡ true
        go true p =
            let i : t < first = ltb-true t first p in
            ap record_right (e ∙ before first t i)
            ∙ rw (old_kept, new_kept, lt-ltb (first % m) m (mod-lt first (pow_pos n)), ne_eqb (first % m) (t % m) (apart m t first i h), or-true)
        go false p = let i : first ≤ t = ltb-false t first p in ap record_right (e ∙ behind first t i) ∙ rw new_kept
