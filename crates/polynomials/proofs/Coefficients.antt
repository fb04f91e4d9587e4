-- Numbers of w bits as polynomials: a power of x, x times a polynomial, and a single coefficient. Assumes nothing.
use mathlib.Core.Path.{◌≡◌, refl, sym, ap, ap₂, ◌∙◌}
use Prim.Native.Nat.{ℕ, zero, suc, ◌+◌, ◌-◌, ◌*◌, ◌/◌, ◌%◌, ◌^◌, ◌<◌, ◌≤◌}
use native.Mathlib.Omega.{arith}
use native.Mathlib.Nat.{pow-suc, one-mul, div-one, div-eq_of_lt}
use native.Mathlib.Numerals.{add-one, one-add}
use mathlib.Core.Bool.{true, false}
use mathlib.Core.List.{[], ◌∷◌, ◌++◌}
use borrow.Author.Tests.{eq-eqb, ne_eqb, lt-ltb, le-ltb}
use lib.Bits.{bit_xor}
use lib.Dec.{eqb}
use lib.Pow.{shr-shr}
use lib.ListN.{get_or}
use Rattle.bits.specs.Strings.{xor_bits, zeros}
use Rattle.bits.specs.Bytes.{low_bits}
use Rattle.bits.proofs.Strings.{xor_bits_comm}
use Rattle.bits.proofs.Bytes.{low_bits-append, low_bits-zero, low_bits-mod, low_bits-xor}
use Rattle.division.specs.Division.{step}
use Rattle.polynomials.specs.Product.{monomial}

-- ---- a power of x below the degree

two_to : (k j : ℕ) → low_bits (k + suc j) (2 ^ k) ≡ zeros k ++ true ∷ zeros j
unfolding low_bits
two_to zero j =
    let e : zero + suc j ≡ suc j = omega arith in
    ap (λ w. low_bits w (2 ^ zero)) e ∙ ap (λ z. true ∷ z) (low_bits-zero j)
two_to (suc k) j =
    let e : suc k + suc j ≡ suc (k + suc j) = omega arith in
    let even : 2 ^ suc k % 2 ≡ 0 = omega (arith, pow-suc 2 k) in
    let half : 2 ^ suc k / 2 ≡ 2 ^ k = omega (arith, pow-suc 2 k) in
    ap (λ w. low_bits w (2 ^ suc k)) e ∙ ap₂ (λ x n. eqb x 1 ∷ low_bits (k + suc j) n) even half ∙ ap (λ z. false ∷ z) (two_to k j)

module _ (w n : ℕ) where
  pub monomial_below : n < w → monomial w n ≡ zeros (w - suc n) ++ true ∷ zeros n
  unfolding monomial
  monomial_below h = rw (lt-ltb n w h)

  -- as code has it: a bit moved up, or zero
  pub monomial_bit : n < w → low_bits w (1 * 2 ^ (w - 1 - n) % 2 ^ w) ≡ monomial w n
  monomial_bit h =
      let k = w - suc n in
      let f : w - 1 - n ≡ k = omega arith in
      let e : w ≡ k + suc n = omega arith in
      low_bits-mod w (1 * 2 ^ (w - 1 - n)) ∙ ap (low_bits w) (one-mul (2 ^ (w - 1 - n)) ∙ ap (λ i. 2 ^ i) f)
      ∙ ap (λ v. low_bits v (2 ^ k)) e ∙ two_to k n ∙ sym (monomial_below h)

  pub monomial_zero : w ≤ n → low_bits w 0 ≡ monomial w n
  unfolding monomial
  monomial_zero h = rw (le-ltb n w h) (low_bits-zero w)

-- ---- x times a polynomial

half_bits : (j n : ℕ) → n < 2 ^ suc j → low_bits (suc j) (n / 2) ≡ low_bits j (n / 2) ++ false ∷ []
half_bits j n h =
    let l : n / 2 < 2 ^ j = omega (arith, pow-suc 2 j) in
    ap (λ w. low_bits w (n / 2)) (sym (add-one j)) ∙ low_bits-append j 1 (n / 2)
    ∙ ap (λ z. low_bits j (n / 2) ++ z) (ap (low_bits 1) (div-eq_of_lt l) ∙ low_bits-zero 1)

module _ (j generator n : ℕ) (fits : n < 2 ^ suc j) where
  pub times_x_odd : n % 2 ≡ 1 → low_bits (suc j) (bit_xor (n / 2) generator) ≡ step (low_bits (suc j) generator) (low_bits (suc j) n) false
  unfolding low_bits
  times_x_odd odd =
      low_bits-xor (suc j) (n / 2) generator ∙ xor_bits_comm (low_bits (suc j) (n / 2)) (low_bits (suc j) generator)
      ∙ ap (xor_bits (low_bits (suc j) generator)) (half_bits j n fits)
      ∙ ap (λ t. step (low_bits (suc j) generator) (t ∷ low_bits j (n / 2)) false) {x = true} (sym (eq-eqb (n % 2) 1 odd))

  pub times_x_even : (n % 2 ≡ 1 → ⊥) → low_bits (suc j) (n / 2) ≡ step (low_bits (suc j) generator) (low_bits (suc j) n) false
  unfolding low_bits
  times_x_even even =
      half_bits j n fits
      ∙ ap (λ t. step (low_bits (suc j) generator) (t ∷ low_bits j (n / 2)) false) {x = false} (sym (ne_eqb (n % 2) 1 even))

-- ---- a coefficient

pub coefficient : (w n i : ℕ) → i < w → eqb (n / 2 ^ i % 2) 1 ≡ get_or (low_bits w n) i false
unfolding low_bits
coefficient zero n i h = absurd (omega arith)
coefficient (suc w) n zero h = ap (λ k. eqb (k % 2) 1) (div-one n)
coefficient (suc w) n (suc i) h =
    ap (λ k. eqb (k % 2) 1) (sym (shr-shr n 1 i ∙ ap (λ k. n / 2 ^ k) (one-add i))) ∙ coefficient w (n / 2) i (omega arith)

pub no_coefficient : (w n i : ℕ) → w ≤ i → false ≡ get_or (low_bits w n) i false
unfolding low_bits
no_coefficient zero n i h = refl
no_coefficient (suc w) n zero h = absurd (omega arith)
no_coefficient (suc w) n (suc i) h = no_coefficient w (n / 2) i (omega arith)
