-- Five ones in a row in a byte and in the bits before it: the places in the byte depend on the byte alone, those before it on
-- the low four bits of the byte. Assumes nothing.
use mathlib.Core.Path.{◌≡◌, sym, ap, ap₂, ◌∙◌}
use Prim.Native.Nat.{ℕ, ◌+◌, ◌*◌, ◌-◌, ◌/◌, ◌%◌, ◌^◌, ◌<◌, ◌≤◌}
use native.Mathlib.Nat.{add_comm}
use native.Mathlib.Omega.{arith}
use lib.Bits.{bit_and, bit_or, and_shr, and_mod}
use lib.Pow.{shr-shr, split, high, low, field, mod-mod-pow, mod-pow-add}
use Rattle.frame.proofs.Words.{joined-or}
use Rattle.zero_insertion.specs.Insertion.{fives_in}
use Rattle.zero_insertion.proofs.Tests.{of, of_is}

-- ---- above and below a place

module _ (k x : ℕ) where
  shifts : (j : ℕ) → x / 2 ^ j / 2 ^ k ≡ x / 2 ^ k / 2 ^ j
  shifts j = shr-shr x j k ∙ ap (λ n. x / 2 ^ n) (add_comm j k) ∙ sym (shr-shr x k j)

  fives_above : fives_in x / 2 ^ k ≡ fives_in (x / 2 ^ k)
  unfolding fives_in
  fives_above = simp (and_shr, shifts 1, shifts 2, shifts 3, shifts 4)

  fives_mod : fives_in x % 2 ^ k
      ≡ bit_and (bit_and (bit_and (x % 2 ^ k) (x / 2 % 2 ^ k)) (bit_and (x / 4 % 2 ^ k) (x / 8 % 2 ^ k))) (x / 16 % 2 ^ k)
  unfolding fives_in
  fives_mod = simp and_mod

  -- the k bits from the place j on
  bits_from : (j : ℕ) → j ≤ 4 → x % 2 ^ (4 + k) / 2 ^ j % 2 ^ k ≡ x / 2 ^ j % 2 ^ k
  bits_from j h =
      let i = 4 - j in
      let e : 4 + k ≡ i + k + j = omega arith in
      ap (λ n. x % 2 ^ n / 2 ^ j % 2 ^ k) e ∙ ap (λ n. n % 2 ^ k) (field x (i + k) j) ∙ mod-mod-pow (x / 2 ^ j) i k

fives_below : (k x : ℕ) → fives_in x % 2 ^ k ≡ fives_in (x % 2 ^ (4 + k)) % 2 ^ k
fives_below k x =
    let b = bits_from k x in
    fives_mod k x
    ∙ sym (fives_mod k (x % 2 ^ (4 + k))
    ∙ simp (mod-mod-pow x 4 k, b 1 (omega arith), b 2 (omega arith), b 3 (omega arith), b 4 (omega arith)))

-- ---- a byte behind k bits

-- as the tests compute it
abbrev pub fives_behind : ℕ → ℕ → ℕ → ℕ
fives_behind k before byte = fives_in byte * 2 ^ k + of (byte % 16 * 2 ^ k + before) fives_in % 2 ^ k

module _ (k before byte : ℕ) (b : before < 2 ^ k) (h : byte < 256) (few : k ≤ 24) where
  abbrev line : ℕ
  line = byte * 2 ^ k + before

  low_bits : line % 2 ^ (4 + k) ≡ byte % 16 * 2 ^ k + before
  low_bits = mod-pow-add line 4 k ∙ ap₂ (λ x y. x % 16 * 2 ^ k + y) (high byte k b) (low byte k b)

  fives_of_line : fives_in line ≡ fives_behind k before byte
  fives_of_line =
      sym (split (fives_in line) k)
      ∙ ap₂ (λ x y. x * 2 ^ k + y) (fives_above k line ∙ ap fives_in (high byte k b))
      (fives_below k line ∙ ap (λ x. x % 2 ^ k) (ap fives_in low_bits ∙ sym (of_is (byte % 16 * 2 ^ k + before) fives_in)))

  pub fives_joined : fives_in (bit_or before (byte * 2 ^ k % 4294967296)) ≡ fives_behind k before byte
  fives_joined = ap fives_in (joined-or k before 8 byte b h (omega arith)) ∙ fives_of_line
