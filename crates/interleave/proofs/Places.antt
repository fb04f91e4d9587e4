-- The place of a byte: where it stands in the order, and how far it is from others. Assumes nothing.
use Rattle.std.proofs.Common.{◌≡◌, ℕ, zero, suc, ◌+◌, ◌-◌, ◌*◌, ◌/◌, ◌%◌, ◌<◌, ◌≤◌, ◌==◌, min, Bool, true, false, nat_lt, ltb-true, ltb-false, length, get_or, arith, ap, ap₂, ◌∙◌, sym, refl}
use Rattle.std.proofs.Math.Nat.{suc-mul, mul-le-mul_right, mod-lt}
use Rattle.std.proofs.lemmas.Nat.{le-div}
use Rattle.std.proofs.lemmas.List.Sums.{position_or_len_is}
use borrow.Author.Tests.{eq-eqb, ne_eqb}
use Rattle.interleave.specs.Interleave.{order, place}
use Rattle.interleave.specs.Steps.{size, start}
use Rattle.interleave.specs.Properties.{distance, NeighboursApart}
use Rattle.interleave.proofs.Starts.{start-zero, start-suc, start-end, start-mono, column-of, row-of, byte-of, inside, has-row}
use Rattle.interleave.proofs.Order.{length-order, get_or-order}

module _ (d n : ℕ) (h : 1 ≤ d) where
  -- ---- the place, worked out

  abbrev pub at : ℕ → ℕ
  at i = start d n (i % d) + i / d

  order-at : (i : ℕ) → i < n → get_or (order d n) (at i) 0 ≡ i
  order-at i l =
      let e = byte-of d n h i in
      let c : i % d < d = mod-lt i h in
      get_or-order d h n (i % d) (i / d) c (has-row d n h (i % d) (i / d) c (omega arith)) ∙ e

  at-of : (c r : ℕ) → c < d → at (c + r * d) ≡ start d n c + r
  at-of c r l = ap₂ (λ x y. start d n x + y) (column-of d n h c r l) (row-of d n h c r l)

  -- it is before the next column
  at-before : (i : ℕ) → i < n → at i < start d n (suc (i % d))
  at-before i l =
      let c : i % d < d = mod-lt i h in
      omega (arith, has-row d n h (i % d) (i / d) c (omega (arith, byte-of d n h i)), start-suc d n h (i % d))

  -- ---- every place is that of a byte

  pub record ByteAt (k : ℕ) : Type 0 where
    pub byte : ℕ
    pub below : byte < n
    pub there : at byte ≡ k

  byte_before : (k c : ℕ) → c ≤ d → k < start d n c → ByteAt k
  byte_before k zero l s = absurd (omega (arith, start-zero d n))
  byte_before k (suc c) l s = go (nat_lt k (start d n c)) refl (byte_before k c (omega arith))
    where
      go : (t : Bool) → nat_lt k (start d n c) ≡ t → (k < start d n c → ByteAt k) → ByteAt k
      go true t before = before (ltb-true k (start d n c) t)
      go false t before =
          let b = ltb-false k (start d n c) t in
          let w : k - start d n c < size d n c = omega (arith, start-suc d n h c) in
          let e : start d n c + (k - start d n c) ≡ k = omega arith in
          record {
            byte = c + (k - start d n c) * d;
            below = inside d n h c (k - start d n c) (omega arith) w;
            there = at-of c (k - start d n c) (omega arith) ∙ e;
          }

  pub byte_at : (k : ℕ) → k < n → ByteAt k
  byte_at k l = byte_before k d (omega arith) (omega (arith, start-end d n h))

  -- ---- place

  pub place-is : (i : ℕ) → i < n → place d n i ≡ at i
  unfolding place
  place-is i l = position_or_len_is (λ k. k == i) (order d n) (at i) 0 (omega (arith, length-order d h n, within)) others itself
    where
      within : at i < n
      within = omega (arith, at-before i l, start-mono d n h (suc (i % d)) d (mod-lt i {m = d} h), start-end d n h)

      itself : at i < length (order d n) → (get_or (order d n) (at i) 0 == i) ≡ true
      itself b = eq-eqb (get_or (order d n) (at i) 0) i (order-at i l)

      others : (k : ℕ) → k < at i → (get_or (order d n) k 0 == i) ≡ false
      others k b =
          let w = byte_at k (omega (arith, within)) in
          let e : get_or (order d n) k 0 ≡ w.byte = ap (λ x. get_or (order d n) x 0) (sym w.there) ∙ order-at w.byte w.below in
          ne_eqb (get_or (order d n) k 0) i (λ q. omega (arith, w.there, ap at (sym e ∙ q)))

  -- ---- what follows

  pub place-within : (i : ℕ) → i < n → place d n i < n
  place-within i l = omega (arith, place-is i l, at-before i l, start-mono d n h (suc (i % d)) d (mod-lt i {m = d} h), start-end d n h)

  pub place-apart : (i j : ℕ) → i < n → j < n → place d n i ≡ place d n j → i ≡ j
  place-apart i j a b e =
      let same : at i ≡ at j = omega (arith, place-is i a, place-is j b) in
      sym (order-at i a) ∙ ap (λ k. get_or (order d n) k 0) same ∙ order-at j b

  pub order-place : (i : ℕ) → i < n → get_or (order d n) (place d n i) 0 ≡ i
  order-place i l = ap (λ k. get_or (order d n) k 0) (place-is i l) ∙ order-at i l

  -- the place of the byte in column c and row r
  pub place-of : (c r : ℕ) → c < d → r < size d n c → place d n (c + r * d) ≡ start d n c + r
  place-of c r l s = place-is (c + r * d) (inside d n h c r l s) ∙ at-of c r l

  pub closed_form : (i : ℕ) → i < n → place d n i ≡ (i % d) * (n / d) + min (i % d) (n % d) + i / d
  unfolding start
  closed_form i l = place-is i l

  pub by_column : (i j : ℕ) → i < n → j < n → i % d < j % d → place d n i < place d n j
  by_column i j a b l = omega (arith, place-is i a, place-is j b, at-before i a, start-mono d n h (suc (i % d)) (j % d) l)

  pub by_row : (i j : ℕ) → i < n → j < n → i % d ≡ j % d → i / d < j / d → place d n i < place d n j
  by_row i j a b e l = omega (arith, place-is i a, place-is j b, ap (start d n) e)

  -- ---- neighbours: byte i + 1 stands in the next column, or begins the next row

  next-column : (i : ℕ) → i + 1 < n → suc (i % d) < d → n / d ≤ distance (place d n i) (place d n (i + 1))
  unfolding start
  next-column i l s =
      let e : suc (i % d) + i / d * d ≡ i + 1 = omega (arith, byte-of d n h i) in
      let f : at (i + 1) ≡ start d n (suc (i % d)) + i / d = ap at (sym e) ∙ at-of (suc (i % d)) (i / d) s in
      omega (arith, place-is i (omega arith), place-is (i + 1) l, suc-mul (i % d) (n / d))

  first-column : (i : ℕ) → i + 1 < n → suc (i % d) ≡ d → 3 ≤ d → d ≤ n → n / d ≤ distance (place d n i) (place d n (i + 1))
  unfolding start
  first-column i l s three long =
      let e : 0 + suc (i / d) * d ≡ i + 1 = omega (arith, byte-of d n h i, suc-mul (i / d) d) in
      let f : at (i + 1) ≡ start d n 0 + suc (i / d) = ap at (sym e) ∙ at-of 0 (suc (i / d)) h in
      let one : 1 ≤ n / d = le-div 1 n d h (omega arith) in
      omega (arith, place-is i (omega arith), place-is (i + 1) l, mul-le-mul_right {m = 2} {n = i % d} (n / d) (omega arith))

pub neighbours_apart : NeighboursApart
neighbours_apart d n i three long l = go (nat_lt (suc (i % d)) d) refl
  where
    one : 1 ≤ d
    one = omega arith

    go : (t : Bool) → nat_lt (suc (i % d)) d ≡ t → n / d ≤ distance (place d n i) (place d n (i + 1))
    go true t = next-column d n one i l (ltb-true (suc (i % d)) d t)
    go false t = first-column d n one i l (omega (arith, ltb-false (suc (i % d)) d t, mod-lt i {m = d} one)) (omega arith) long
