-- Powers of x as numbers: the register of w bits after each shift, and a test that no two of them are equal but for the last bit.
-- Assumes nothing.
use mathlib.Core.Path.{◌≡◌, refl, sym, ap, ap₂, ◌∙◌}
use Prim.Native.Nat.{ℕ, zero, suc, ◌+◌, ◌-◌, ◌*◌, ◌/◌, ◌%◌, ◌^◌, ◌≤◌, ◌<◌}
use native.Mathlib.Nat.{div-eq_of_lt, mod-lt, lt_of_not-le, pow-suc, div-one, div_self, mod_self}
use native.Mathlib.Numerals.{add-one, one-add}
use native.Mathlib.Decide.{dec_le}
use native.Mathlib.Omega.{arith}
use mathlib.Core.Bool.{Bool, true, false, xor, cond}
use mathlib.Core.List.{List, [], ◌∷◌, ◌++◌}
use lib.Dec.{eqb}
use lib.ListN.{length}
use lib.Pow.{shr-shr, pow_pos}
use borrow.Author.Tests.{eq-eqb}
use Rattle.bits.specs.Strings.{xor_bits, zeros}
use Rattle.bits.specs.Bytes.{low_bits, value}
use Rattle.bits.proofs.Strings.{true-xor, false-xor, length-zeros, length-xor, xor_bits-zeros, xor_bits_assoc, xor_bits-append, equal_of_xor, append_split}
use Rattle.bits.proofs.Bytes.{length-low_bits, low_bits-zero, low_bits-append, low_bits-mod, value-low_bits}
use Rattle.division.specs.Division.{step, divide, power}
use Rattle.division.specs.Laws.{NoTrinomial}
use Rattle.division.proofs.Zeros.{remainder_short}
use Rattle.division.proofs.Powers.{power-add}
use Rattle.division.proofs.Distinct.{count, Once}

-- ---- bits of a number changed

-- v added where it is not among the bits, else taken away
abbrev pub flip_bit : ℕ → ℕ → ℕ → ℕ
flip_bit zero v n = n + v
flip_bit (suc b) v n = n - v

-- the bits with these numbers
abbrev pub flip_bits : List ℕ → ℕ → ℕ
flip_bits [] n = n
flip_bits (e ∷ es) n = flip_bits es (flip_bit (n / 2 ^ e % 2) (2 ^ e) n)

flip_first : (n : ℕ) → flip_bit (n / 2 ^ 0 % 2) (2 ^ 0) n ≡ n / 2 * 2 + (1 - n % 2)
flip_first n = go (n / 2 ^ 0 % 2) refl
  where
    go : (b : ℕ) → n / 2 ^ 0 % 2 ≡ b → flip_bit b (2 ^ 0) n ≡ n / 2 * 2 + (1 - n % 2)
    go zero e = omega (arith, div-one n)
    go (suc b) e = omega (arith, div-one n)

within : (n d : ℕ) → (n / d ≡ 0 → ⊥) → d ≤ n
within n d h = elim (dec_le d n) [ yes l ↦ l | no l ↦ absurd (h (div-eq_of_lt {n = n} {m = d} (lt_of_not-le l))) ]

flip_suc : (e n : ℕ) → flip_bit (n / 2 ^ suc e % 2) (2 ^ suc e) n ≡ flip_bit (n / 2 / 2 ^ e % 2) (2 ^ e) (n / 2) * 2 + n % 2
flip_suc e n =
    let s : n / 2 / 2 ^ e ≡ n / 2 ^ suc e = shr-shr n 1 e ∙ ap (λ x. n / 2 ^ x) (one-add e) in
    ap (λ x. flip_bit (x % 2) (2 ^ suc e) n) (sym s) ∙ go (n / 2 / 2 ^ e) refl
  where
    go : (q : ℕ) → n / 2 / 2 ^ e ≡ q → flip_bit (q % 2) (2 ^ suc e) n ≡ flip_bit (q % 2) (2 ^ e) (n / 2) * 2 + n % 2
    go q h = cases (q % 2) refl
      where
        cases : (b : ℕ) → q % 2 ≡ b → flip_bit b (2 ^ suc e) n ≡ flip_bit b (2 ^ e) (n / 2) * 2 + n % 2
        cases zero f = omega (arith, pow-suc 2 e)
        cases (suc b) f = let l : 2 ^ e ≤ n / 2 = within (n / 2) (2 ^ e) (omega arith) in omega (arith, pow-suc 2 e)

-- so it is the bits' sum
pub flip_xor : (w e n : ℕ) → low_bits w (flip_bit (n / 2 ^ e % 2) (2 ^ e) n) ≡ xor_bits (low_bits w (2 ^ e)) (low_bits w n)
unfolding low_bits
flip_xor zero e n = refl
flip_xor (suc w) zero n =
    ap (low_bits (suc w)) (flip_first n)
    ∙ ap₂ ◌∷◌ (head (n % 2) (omega arith)) (ap (low_bits w) {x = (n / 2 * 2 + (1 - n % 2)) / 2} {y = n / 2} (omega arith))
    ∙ ap (λ z. xor true (eqb (n % 2) 1) ∷ z) (sym (ap (λ z. xor_bits z (low_bits w (n / 2))) (low_bits-zero w) ∙ xor_bits-zeros w (low_bits w (n / 2)) (length-low_bits w (n / 2))))
  where
    head : (b : ℕ) → b < 2 → eqb ((n / 2 * 2 + (1 - b)) % 2) 1 ≡ xor true (eqb b 1)
    head zero h = ap (λ x. eqb x 1) {x = (n / 2 * 2 + 1) % 2} {y = 1} (omega arith) ∙ sym (true-xor false)
    head (suc zero) h = ap (λ x. eqb x 1) {x = (n / 2 * 2 + 0) % 2} {y = 0} (omega arith) ∙ sym (true-xor true)
    head (suc (suc b)) h = absurd (omega arith)
flip_xor (suc w) (suc e) n =
    let m = flip_bit (n / 2 / 2 ^ e % 2) (2 ^ e) (n / 2) in
    let half : 2 ^ suc e / 2 ≡ 2 ^ e = omega (arith, pow-suc 2 e) in
    let even : 2 ^ suc e % 2 ≡ 0 = omega (arith, pow-suc 2 e) in
    ap (low_bits (suc w)) (flip_suc e n)
    ∙ ap₂ (λ x y. eqb x 1 ∷ low_bits w y) {x = (m * 2 + n % 2) % 2} {y = n % 2} {u = (m * 2 + n % 2) / 2} {v = m} (omega arith) (omega arith)
    ∙ ap (λ t. t ∷ low_bits w m) (sym (false-xor (eqb (n % 2) 1)))
    ∙ ap₂ (λ x y. xor (eqb x 1) (eqb (n % 2) 1) ∷ y) (sym even) (flip_xor w e (n / 2) ∙ ap (λ x. xor_bits (low_bits w x) (low_bits w (n / 2))) (sym half))

-- the sum of the bits with these numbers, as a string of w bits
abbrev pub bits_at : ℕ → List ℕ → List Bool
bits_at w [] = zeros w
bits_at w (e ∷ es) = xor_bits (bits_at w es) (low_bits w (2 ^ e))

pub flips_xor : (w : ℕ) (es : List ℕ) (n : ℕ) → low_bits w (flip_bits es n) ≡ xor_bits (bits_at w es) (low_bits w n)
flips_xor w [] n = sym (xor_bits-zeros w (low_bits w n) (length-low_bits w n))
flips_xor w (e ∷ es) n =
    flips_xor w es (flip_bit (n / 2 ^ e % 2) (2 ^ e) n) ∙ ap (xor_bits (bits_at w es)) (flip_xor w e n)
    ∙ sym (xor_bits_assoc (bits_at w es) (low_bits w (2 ^ e)) (low_bits w n))

-- ---- the register of v + 1 bits that moves up a power: its low bit, the highest power, leaves it

abbrev pub subtract_if : List ℕ → ℕ → ℕ → ℕ
subtract_if es zero n = n
subtract_if es (suc b) n = flip_bits es n

abbrev pub next : ℕ → List ℕ → ℕ → ℕ
next v es n = subtract_if es (n % 2) (n / 2 % 2 ^ v)

module _ (v : ℕ) (es : List ℕ) where
  next-step : (n : ℕ) → low_bits (suc v) (next v es n) ≡ step (bits_at (suc v) es) (low_bits (suc v) n) false
  unfolding low_bits
  next-step n = go (n % 2) (omega arith)
    where
      m : ℕ
      m = n / 2 % 2 ^ v

      up : low_bits (suc v) m ≡ low_bits v (n / 2) ++ false ∷ []
      up =
          ap (λ w. low_bits w m) (sym (add-one v)) ∙ low_bits-append v 1 m
          ∙ ap₂ (λ x y. x ++ eqb (y % 2) 1 ∷ []) (low_bits-mod v (n / 2)) (div-eq_of_lt (mod-lt (n / 2) (pow_pos v)))

      go : (b : ℕ) → b < 2 → low_bits (suc v) (subtract_if es b m) ≡ step (bits_at (suc v) es) (eqb b 1 ∷ low_bits v (n / 2)) false
      go zero h = up
      go (suc zero) h = flips_xor (suc v) es m ∙ ap (xor_bits (bits_at (suc v) es)) up
      go (suc (suc b)) h = absurd (omega arith)

  -- the register after i shifts
  abbrev pub shifted : ℕ → ℕ → ℕ
  shifted zero n = n
  shifted (suc i) n = shifted i (next v es n)

  pub shifted-divide : (i n : ℕ) → low_bits (suc v) (shifted i n) ≡ divide (bits_at (suc v) es) (low_bits (suc v) n) (zeros i)
  unfolding divide
  shifted-divide zero n = refl
  shifted-divide (suc i) n = shifted-divide i (next v es n) ∙ ap (λ r. divide (bits_at (suc v) es) r (zeros i)) (next-step n)

-- ---- all registers of a run, each without its last bit

-- those after 0 to k - 1 shifts, before those of the list
abbrev pub run : ℕ → List ℕ → ℕ → ℕ → List ℕ → List ℕ
run v es zero n l = l
run v es (suc k) n l = run v es k (next v es n) (n % 2 ^ v ∷ l)

module _ (v : ℕ) (es : List ℕ) where
  run_more : (x k n : ℕ) (l : List ℕ) → count x l ≤ count x (run v es k n l)
  run_more x zero n l = omega arith
  run_more x (suc k) n l = omega (arith, run_more x k (next v es n) (n % 2 ^ v ∷ l))

  run_once : (i k n : ℕ) (l : List ℕ) → i < k → count (shifted v es i n % 2 ^ v) l + 1 ≤ count (shifted v es i n % 2 ^ v) (run v es k n l)
  run_once i zero n l h = absurd (omega arith)
  run_once zero (suc k) n l h =
      let x = n % 2 ^ v in
      omega (arith, run_more x k (next v es n) (x ∷ l), ap {B = ℕ} (λ t. cond t 1 0) (eq-eqb x x refl))
  run_once (suc i) (suc k) n l h = omega (arith, run_once i k (next v es n) (n % 2 ^ v ∷ l) (omega arith))

  run_twice : (i j k n : ℕ) (l : List ℕ) → i < j → j < k → shifted v es i n % 2 ^ v ≡ shifted v es j n % 2 ^ v
      → 2 ≤ count (shifted v es j n % 2 ^ v) (run v es k n l)
  run_twice i j zero n l h g e = absurd (omega arith)
  run_twice i zero (suc k) n l h g e = absurd (omega arith)
  run_twice zero (suc j) (suc k) n l h g e =
      let x = shifted v es j (next v es n) % 2 ^ v in
      omega (arith, run_once j k (next v es n) (n % 2 ^ v ∷ l) (omega arith), ap {B = ℕ} (λ t. cond t 1 0) (eq-eqb x (n % 2 ^ v) (sym e)))
  run_twice (suc i) (suc j) (suc k) n l h g e = run_twice i j k (next v es n) (n % 2 ^ v ∷ l) (omega arith) (omega arith) e

  run_once_each : (k n : ℕ) → Once (run v es k n []) → (i j : ℕ) → i < j → j < k → shifted v es i n % 2 ^ v ≡ shifted v es j n % 2 ^ v → ⊥
  run_once_each k n once i j h g e = omega (arith, run_twice i j k n [] h g e, once (shifted v es j n % 2 ^ v))

-- ---- powers of x: those below k, where none occurs twice

module _ (v : ℕ) (es : List ℕ) (p : List Bool) (bits : bits_at (suc v) es ≡ p) (width : length p ≡ suc v) where
  power_zero : power p 0 ≡ zeros v ++ true ∷ []
  unfolding power
  power_zero = remainder_short p (true ∷ []) (omega arith) ∙ ap (λ n. zeros n ++ true ∷ []) {x = length p - 1} {y = v} (omega arith)

  register_one : low_bits (suc v) (2 ^ v) ≡ power p 0
  unfolding low_bits
  register_one =
      ap (λ w. low_bits w (2 ^ v)) (sym (add-one v)) ∙ low_bits-append v 1 (2 ^ v)
      ∙ ap₂ (λ x y. x ++ eqb (y % 2) 1 ∷ []) (sym (low_bits-mod v (2 ^ v)) ∙ ap (low_bits v) (mod_self (2 ^ v)) ∙ low_bits-zero v) (div_self (pow_pos v))
      ∙ sym power_zero

  pub register_power : (i : ℕ) → low_bits (suc v) (shifted v es i (2 ^ v)) ≡ power p i
  register_power i =
      shifted-divide v es i (2 ^ v) ∙ ap₂ (λ q r. divide q r (zeros i)) bits register_one
      ∙ sym (power-add p 0 i) ∙ ap (power p) {x = 0 + i} {y = i} (omega arith)

  -- the register without its last bit
  low_part : (i : ℕ) → power p i ≡ low_bits v (shifted v es i (2 ^ v)) ++ low_bits 1 (shifted v es i (2 ^ v) / 2 ^ v)
  low_part i =
      sym (register_power i) ∙ ap (λ w. low_bits w (shifted v es i (2 ^ v))) (sym (add-one v)) ∙ low_bits-append v 1 (shifted v es i (2 ^ v))

  one_low_part : (i j : ℕ) → low_bits v (shifted v es i (2 ^ v)) ≡ low_bits v (shifted v es j (2 ^ v)) → shifted v es i (2 ^ v) % 2 ^ v ≡ shifted v es j (2 ^ v) % 2 ^ v
  one_low_part i j e = sym (value-low_bits v _) ∙ ap value e ∙ value-low_bits v _

  module _ (k : ℕ) (once : Once (run v es k (2 ^ v) [])) where
    pub no_trinomial : NoTrinomial p (k - 1)
    no_trinomial i j h g f e =
        let a = shifted v es i (2 ^ v) in
        let b = shifted v es j (2 ^ v) in
        let lb = length-low_bits v b in
        let la = length-low_bits v a in
        let s : xor_bits (low_bits v b) (low_bits v a) ++ xor_bits (low_bits 1 (b / 2 ^ v)) (low_bits 1 (a / 2 ^ v)) ≡ zeros v ++ true ∷ [] =
        sym (xor_bits-append (low_bits v b) (low_bits v a) _ _ (lb ∙ sym la)) ∙ ap₂ xor_bits (sym (low_part j)) (sym (low_part i)) ∙ e ∙ power_zero in
        let q = (append_split _ _ _ _ (length-xor (low_bits v b) (low_bits v a) (lb ∙ sym la) ∙ la ∙ sym (length-zeros v)) s).0 in
        run_once_each v es k (2 ^ v) once i j g (omega arith)
        (one_low_part i j (sym (equal_of_xor (low_bits v b) (low_bits v a) (lb ∙ sym la) (q ∙ ap zeros (sym la)))))
