-- Powers of x modulo the divisor: computed by halving the exponent and squaring, and how powers that are 1 combine. Assumes nothing.
use mathlib.Core.Path.{◌≡◌, sym, ap, ◌∙◌}
use Prim.Native.Nat.{ℕ, zero, suc, ◌+◌, ◌*◌, ◌/◌, ◌%◌, ◌^◌, ◌<◌}
use native.Mathlib.Nat.{pow-suc, zero-mul, suc-mul}
use native.Mathlib.Omega.{arith}
use mathlib.Core.Bool.{Bool, true, false}
use mathlib.Core.List.{List, [], ◌∷◌}
use lib.ListN.{length}
use Rattle.bits.specs.Strings.{zeros}
use Rattle.bits.proofs.Strings.{zeros-append}
use Rattle.division.specs.Division.{step, divide, remainder, power, PowerIsOne}
use Rattle.division.proofs.Linear.{divide-append, remainder-append}
use Rattle.division.proofs.Zeros.{leading}
use Rattle.division.proofs.Substitution.{spread_by, length-spread_by, spread_by-zeros, spread_remainder}

-- ---- the square of a polynomial has its bits at the even powers

abbrev pub square : List Bool → List Bool → List Bool
square p r = remainder p (spread_by 1 r)

-- ---- x to the power n, of k binary digits, by squaring

abbrev pub times_xif : List Bool → ℕ → List Bool → List Bool
times_xif p zero r = r
times_xif p (suc b) r = step p r false

abbrev pub fast_power : List Bool → ℕ → ℕ → List Bool
fast_power p zero n = remainder p (true ∷ [])
fast_power p (suc k) n = times_xif p (n % 2) (square p (fast_power p k (n / 2)))

pub power-add : (p : List Bool) (n m : ℕ) → power p (n + m) ≡ divide p (power p n) (zeros m)
unfolding power
power-add p n m = ap (λ z. remainder p (true ∷ z)) (sym (zeros-append n m)) ∙ remainder-append p (true ∷ zeros n) (zeros m)

power-times-x : (p : List Bool) (n b : ℕ) → b < 2 → times_xif p b (power p n) ≡ power p (n + b)
unfolding divide
power-times-x p n zero h = sym (power-add p n 0)
power-times-x p n (suc zero) h = sym (power-add p n 1)
power-times-x p n (suc (suc b)) h = absurd (omega arith)

-- the square of the divisor, x^2w plus the square of its low part, leaves nothing: computed, once for a divisor
abbrev pub Squares : List Bool → Type 0
Squares p = square p p ≡ power p (length p + length p)

module _ (p : List Bool) (sq : Squares p) where
  square-power : (n : ℕ) → square p (power p n) ≡ power p (n + n)
  unfolding power
  square-power n =
      spread_remainder 1 p p (ap (power p) {x = length (spread_by 1 p)} {y = length p + length p} (omega (arith, length-spread_by 1 p)) ∙ sym sq) (true ∷ zeros n)
      ∙ leading p 1 _ ∙ ap (λ z. remainder p (true ∷ z)) (spread_by-zeros 1 n ∙ ap zeros {x = 2 * n} {y = n + n} (omega arith))

  pub fast_power_lem : (k n : ℕ) → n < 2 ^ k → fast_power p k n ≡ power p n
  unfolding power
  fast_power_lem zero n h = ap (power p) {x = 0} {y = n} (omega arith)
  fast_power_lem (suc k) n h =
      ap (λ z. times_xif p (n % 2) (square p z)) (fast_power_lem k (n / 2) (omega (arith, pow-suc 2 k)))
      ∙ ap (times_xif p (n % 2)) (square-power (n / 2))
      ∙ power-times-x p (n / 2 + n / 2) (n % 2) (omega arith) ∙ ap (power p) {x = n / 2 + n / 2 + n % 2} {y = n} (omega arith)

-- ---- registers that a shift by n keeps

abbrev pub Kept : List Bool → List Bool → ℕ → Type 0
Kept p r n = divide p r (zeros n) ≡ r

module _ (p r : List Bool) where
  pub kept_rest : (n m : ℕ) → Kept p r n → Kept p r (n + m) → Kept p r m
  kept_rest n m f g =
      ap (λ z. divide p z (zeros m)) (sym f) ∙ sym (divide-append p r (zeros n) (zeros m)) ∙ ap (divide p r) (zeros-append n m) ∙ g

  kept-add : (n m : ℕ) → Kept p r n → Kept p r m → Kept p r (n + m)
  kept-add n m f g =
      ap (divide p r) (sym (zeros-append n m)) ∙ divide-append p r (zeros n) (zeros m) ∙ ap (λ z. divide p z (zeros m)) f ∙ g

  pub kept_multiple : (k n : ℕ) → Kept p r n → Kept p r (k * n)
  unfolding divide
  kept_multiple zero n f = ap (λ m. divide p r (zeros m)) (zero-mul n)
  kept_multiple (suc k) n f = ap (λ m. divide p r (zeros m)) (suc-mul k n) ∙ kept-add (k * n) n (kept_multiple k n f) f

-- ---- powers that are 1

pub one_add : (p : List Bool) (n m : ℕ) → PowerIsOne p n → power p (n + m) ≡ power p m
one_add p n m e = power-add p n m ∙ ap (λ z. divide p z (zeros m)) e ∙ sym (power-add p 0 m) ∙ ap (power p) (omega arith)

pub one_multiple : (p : List Bool) (k n : ℕ) → PowerIsOne p n → PowerIsOne p (k * n)
one_multiple p k n e =
    ap (power p) {x = k * n} {y = 0 + k * n} (omega arith) ∙ power-add p 0 (k * n)
    ∙ kept_multiple p (power p 0) k n (sym (power-add p 0 n) ∙ ap (power p) {x = 0 + n} {y = n} (omega arith) ∙ e)
