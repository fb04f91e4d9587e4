-- The sums of two registers of a run, and a test that no two pairs have one sum. Assumes nothing.
use mathlib.Core.Path.{◌≡◌, refl, sym, ap, ap₂, ◌∙◌}
use mathlib.Core.Logic.{inl, inr}
use Prim.Native.Nat.{ℕ, zero, suc, ◌+◌, ◌%◌, ◌^◌, ◌≤◌}
use native.Mathlib.Nat.{eq-or-lt_of_le, le_of_suc-le-suc}
use native.Mathlib.Omega.{arith}
use mathlib.Core.Bool.{Bool, cond}
use mathlib.Core.List.{List, [], ◌∷◌, map}
use lib.Bits.{bit_xor}
use lib.ListN.{length}
use borrow.Author.Tests.{eq-eqb}
use Rattle.bits.specs.Strings.{xor_bits}
use Rattle.bits.specs.Bytes.{value}
use Rattle.bits.proofs.Bytes.{low_bits-xor, value-low_bits}
use Rattle.division.specs.Division.{power}
use Rattle.division.specs.Laws.{NoMultiple}
use Rattle.division.proofs.Distinct.{count, Once}
use Rattle.division.proofs.Sums.{Falling, four_terms, no_remainder, two_and_rest, sum-one}
use Rattle.division.proofs.Numbers.{bits_at, shifted, register_power}

-- ---- the sums of all pairs of a list

-- by any rule `op` for the sum of two numbers
abbrev pub sums_with : (ℕ → ℕ → ℕ) → ℕ → List ℕ → List ℕ → List ℕ
sums_with op x [] a = a
sums_with op x (y ∷ l) a = sums_with op x l (op x y ∷ a)

abbrev pub pair_sums : (ℕ → ℕ → ℕ) → List ℕ → List ℕ → List ℕ
pair_sums op [] a = a
pair_sums op (x ∷ l) a = pair_sums op l (sums_with op x l a)

-- a list in another, in its order
pub data Within : List ℕ → List ℕ → Type 0 where
  none : {l : List ℕ} → Within [] l
  skip : {n : ℕ} {s l : List ℕ} → Within s l → Within s (n ∷ l)
  keep : {n : ℕ} {s l : List ℕ} → Within s l → Within (n ∷ s) (n ∷ l)

tail_within : {x : ℕ} {s l : List ℕ} → Within (x ∷ s) l → Within s l
tail_within (skip w) = skip (tail_within w)
tail_within (keep w) = skip w

module _ (op : ℕ → ℕ → ℕ) where
  sums_more : (z x : ℕ) (l a : List ℕ) → count z a ≤ count z (sums_with op x l a)
  sums_more z x [] a = omega arith
  sums_more z x (y ∷ l) a = omega (arith, sums_more z x l (op x y ∷ a))

  sums_once : {y : ℕ} {s l : List ℕ} (x : ℕ) (a : List ℕ) → Within (y ∷ s) l → count (op x y) a + 1 ≤ count (op x y) (sums_with op x l a)
  sums_once {y} x a (skip {n} {s} {l} w) = omega (arith, sums_once x (op x n ∷ a) w)
  sums_once {y} x a (keep {n} {s} {l} w) = omega (arith, sums_more (op x y) x l (op x y ∷ a), ap {B = ℕ} (λ t. cond t 1 0) (eq-eqb (op x y) (op x y) refl))

  pairs_more : (z : ℕ) (l a : List ℕ) → count z a ≤ count z (pair_sums op l a)
  pairs_more z [] a = omega arith
  pairs_more z (x ∷ l) a = omega (arith, sums_more z x l a, pairs_more z l (sums_with op x l a))

  pairs_once : {x y : ℕ} {l : List ℕ} (a : List ℕ) → Within (x ∷ y ∷ []) l → count (op x y) a + 1 ≤ count (op x y) (pair_sums op l a)
  pairs_once {x} {y} a (skip {n} {s} {l} w) = omega (arith, sums_more (op x y) n l a, pairs_once (sums_with op n l a) w)
  pairs_once {x} {y} a (keep {n} {s} {l} w) = omega (arith, sums_once x a w, pairs_more (op x y) l (sums_with op x l a))

  pairs_twice : {x y z t : ℕ} {l : List ℕ} (a : List ℕ) → Within (x ∷ y ∷ z ∷ t ∷ []) l → op z t ≡ op x y → 2 ≤ count (op x y) (pair_sums op l a)
  pairs_twice {x} {y} a (skip {n} {s} {l} w) e = pairs_twice (sums_with op n l a) w e
  pairs_twice {x} {y} {z} {t} a (keep {n} {s} {l} w) e =
      omega (arith, sums_once x a w, rw e at (pairs_once (sums_with op x l a) (tail_within w)))

  pub pairs_apart : {x y z t : ℕ} {l : List ℕ} → Once (pair_sums op l []) → Within (x ∷ y ∷ z ∷ t ∷ []) l → op z t ≡ op x y → ⊥
  pairs_apart {x} {y} {z} {t} {l} once w e = omega (arith, once (op x y), pairs_twice [] w e)

-- ---- the registers of a run

module _ (v : ℕ) (es : List ℕ) (n : ℕ) where
  -- those after k - 1 to 0 shifts
  abbrev pub registers : ℕ → List ℕ
  registers zero = []
  registers (suc k) = shifted v es k n ∷ registers k

  pub falling_within : (k : ℕ) (ds : List ℕ) → Falling k ds → Within (map (λ d. shifted v es d n) ds) (registers k)
  falling_within k [] f = none
  falling_within zero (d ∷ ds) f = absurd (omega (arith, f.0))
  falling_within (suc k) (d ∷ ds) f =
      elim (eq-or-lt_of_le (le_of_suc-le-suc f.0))
      [ inl e ↦ rw e (keep (falling_within k ds (rw e at f.1))) | inr l ↦ skip (falling_within k (d ∷ ds) (l, f.1)) ]

-- ---- no multiple has four terms where no two pairs of the powers below x^k have one sum

-- the sum of two registers of v + 1 bits
abbrev pub sum_of : ℕ → ℕ → ℕ → ℕ
sum_of v m n = bit_xor m n % 2 ^ suc v

module _ (v : ℕ) (es : List ℕ) (p : List Bool) (bits : bits_at (suc v) es ≡ p) (width : length p ≡ suc v) where
  sum-value : (i j : ℕ) → sum_of v (shifted v es i (2 ^ v)) (shifted v es j (2 ^ v)) ≡ value (xor_bits (power p i) (power p j))
  sum-value i j =
      let m = shifted v es i (2 ^ v) in
      let n = shifted v es j (2 ^ v) in
      sym (value-low_bits (suc v) (bit_xor m n))
      ∙ ap value (low_bits-xor (suc v) m n ∙ ap₂ xor_bits (register_power v es p bits width i) (register_power v es p bits width j))

  pub no_multiple_of_four : (k : ℕ) → Once (pair_sums (sum_of v) (registers v es (2 ^ v) k) []) → NoMultiple 4 k p
  no_multiple_of_four k once s short d w =
      let f = four_terms s w in
      let e : xor_bits (power p f.a) (power p f.b) ≡ xor_bits (power p f.c) (power p f.d) =
      two_and_rest p f.a f.b (f.c ∷ f.d ∷ []) (no_remainder p s d f.powers) ∙ ap (xor_bits (power p f.c)) (sum-one p f.d) in
      pairs_apart (sum_of v) once
      (falling_within v es (2 ^ v) k (f.a ∷ f.b ∷ f.c ∷ f.d ∷ []) (omega (arith, f.order.0), f.order.1))
      (sum-value f.c f.d ∙ ap value (sym e) ∙ sym (sum-value f.a f.b))
