-- Where the columns of a line begin, how long they are, and which bytes they hold. Assumes nothing.
use Rattle.std.proofs.Common.{◌≡◌, ℕ, Bool, true, false, nat_lt, refl, ltb-true, ltb-false, suc, ◌+◌, ◌*◌, ◌/◌, ◌%◌, ◌<◌, ◌≤◌, arith, ap, ◌∙◌}
use Rattle.std.proofs.Math.Nat.{mul-le-mul_right, suc-mul, mul_comm, mod-lt}
use Rattle.std.proofs.lemmas.Nat.{div-add-mod', div-mul-add, mod-mul-add}
use Rattle.interleave.specs.Steps.{size, start}

pub start-zero : (d n : ℕ) → 0 ≡ start d n 0
unfolding start
start-zero d n = omega arith

module _ (d n : ℕ) (h : 1 ≤ d) where
  pub start-suc : (c : ℕ) → start d n (suc c) ≡ start d n c + size d n c
  unfolding start
  start-suc c = omega (arith, suc-mul c (n / d))

  pub start-end : start d n d ≡ n
  unfolding start
  start-end = omega (arith, mod-lt n {m = d} h, mul_comm d (n / d), div-add-mod' n d)

  pub start-mono : (c k : ℕ) → c ≤ k → start d n c ≤ start d n k
  unfolding start
  start-mono c k l = omega (arith, mul-le-mul_right {m = c} {n = k} (n / d) l)

  -- ---- the byte in column c and row r

  pub column-of : (c r : ℕ) → c < d → (c + r * d) % d ≡ c
  column-of c r l =
      let e : c + r * d ≡ r * d + c = omega arith in
      ap (λ x. x % d) e ∙ mod-mul-add r d c l

  pub row-of : (c r : ℕ) → c < d → (c + r * d) / d ≡ r
  row-of c r l =
      let e : c + r * d ≡ r * d + c = omega arith in
      ap (λ x. x / d) e ∙ div-mul-add r d c l

  pub byte-of : (i : ℕ) → i % d + i / d * d ≡ i
  byte-of i = omega (arith, div-add-mod' i d)

  -- it is one of the n bytes where the column has more than r
  pub inside : (c r : ℕ) → c < d → r < size d n c → c + r * d < n
  inside c r l s = go (nat_lt c (n % d)) refl
    where
      go : (t : Bool) → nat_lt c (n % d) ≡ t → c + r * d < n
      go true t =
          let b = ltb-true c (n % d) t in
          omega (arith, mul-le-mul_right {m = r} {n = n / d} d (omega arith), div-add-mod' n d)
      go false t =
          let b = ltb-false c (n % d) t in
          omega (arith, mul-le-mul_right {m = suc r} {n = n / d} d (omega arith), suc-mul r d, div-add-mod' n d)

  pub has-row : (c r : ℕ) → c < d → c + r * d < n → r < size d n c
  has-row c r l s = go (nat_lt r (size d n c)) refl (nat_lt c (n % d)) refl
    where
      go : (t : Bool) → nat_lt r (size d n c) ≡ t → (u : Bool) → nat_lt c (n % d) ≡ u → r < size d n c
      go true t u e = ltb-true r (size d n c) t
      go false t true e =
          let a = ltb-false r (size d n c) t in
          let b = ltb-true c (n % d) e in
          absurd (omega (arith, mul-le-mul_right {m = suc (n / d)} {n = r} d (omega arith), suc-mul (n / d) d, div-add-mod' n d, mod-lt n {m = d} h))
      go false t false e =
          let a = ltb-false r (size d n c) t in
          let b = ltb-false c (n % d) e in
          absurd (omega (arith, mul-le-mul_right {m = n / d} {n = r} d (omega arith), div-add-mod' n d))

-- ---- one byte more

pub next-in-row : (d n : ℕ) → suc (n % d) < d → ((n + 1) / d ≡ n / d) × ((n + 1) % d ≡ suc (n % d))
next-in-row d n l =
    let e : n + 1 ≡ n / d * d + suc (n % d) = omega (arith, div-add-mod' n d) in
    (ap (λ x. x / d) e ∙ div-mul-add (n / d) d (suc (n % d)) l, ap (λ x. x % d) e ∙ mod-mul-add (n / d) d (suc (n % d)) l)

pub next-row : (d n : ℕ) → suc (n % d) ≡ d → ((n + 1) / d ≡ suc (n / d)) × ((n + 1) % d ≡ 0)
next-row d n l =
    let e : n + 1 ≡ suc (n / d) * d + 0 = omega (arith, div-add-mod' n d, suc-mul (n / d) d) in
    (ap (λ x. x / d) e ∙ div-mul-add (suc (n / d)) d 0 (omega arith), ap (λ x. x % d) e ∙ mod-mul-add (suc (n / d)) d 0 (omega arith))
