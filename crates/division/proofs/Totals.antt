-- A sum of powers of x is 0 where each of its bits is set an even number of times; then so is the sum of the powers brought up.
-- Assumes nothing.
use mathlib.Core.Path.{◌≡◌, refl, sym, ap, ◌∙◌}
use Prim.Native.Nat.{ℕ, zero, suc, ◌+◌, ◌%◌}
use native.Mathlib.Omega.{arith}
use mathlib.Core.Bool.{Bool, true, false, xor, cond}
use mathlib.Core.List.{List, [], ◌∷◌, map}
use lib.ListN.{length}
use Rattle.bits.specs.Strings.{xor_bits, zeros}
use Rattle.bits.proofs.Strings.{length-xor, equal_of_xor}
use Rattle.division.specs.Division.{divide, power}
use Rattle.division.proofs.Zeros.{divide-zeros}
use Rattle.division.proofs.Detection.{length-power}
use Rattle.division.proofs.Sums.{sum, length-sum, divide-sum}

abbrev pub bit : ℕ → List Bool → ℕ
bit i [] = 0
bit zero (x ∷ a) = cond x 1 0
bit (suc i) (x ∷ a) = bit i a

bit-zeros : (i n : ℕ) → bit i (zeros n) ≡ 0
bit-zeros i zero = refl
bit-zeros zero (suc n) = refl
bit-zeros (suc i) (suc n) = bit-zeros i n

bit_xor : (i : ℕ) (a b : List Bool) → length a ≡ length b → bit i (xor_bits a b) % 2 ≡ (bit i a + bit i b) % 2
unfolding xor
bit_xor i [] [] h = refl
bit_xor i [] (y ∷ b) h = absurd (omega arith)
bit_xor i (x ∷ a) [] h = absurd (omega arith)
bit_xor zero (true ∷ a) (true ∷ b) h = refl
bit_xor zero (true ∷ a) (false ∷ b) h = refl
bit_xor zero (false ∷ a) (true ∷ b) h = refl
bit_xor zero (false ∷ a) (false ∷ b) h = refl
bit_xor (suc i) (x ∷ a) (y ∷ b) h = bit_xor i a b (omega arith)

all-zero : (a : List Bool) → ((i : ℕ) → bit i a % 2 ≡ 0) → a ≡ zeros (length a)
all-zero [] f = refl
all-zero (true ∷ a) f = absurd (omega (arith, f 0))
all-zero (false ∷ a) f = ap (λ z. false ∷ z) (all-zero a (λ i. f (suc i)))

module _ (p : List Bool) where
  -- how often the bit i is set in the powers
  abbrev pub total : ℕ → List ℕ → ℕ
  total i [] = 0
  total i (d ∷ ds) = bit i (power p d) + total i ds

  abbrev pub Even : List ℕ → Type 0
  Even ds = (i : ℕ) → total i ds % 2 ≡ 0

  sum-total : (i : ℕ) (ds : List ℕ) → bit i (sum p ds) % 2 ≡ total i ds % 2
  sum-total i [] = ap (λ n. n % 2) (bit-zeros i (length p))
  sum-total i (d ∷ ds) =
      bit_xor i (power p d) (sum p ds) (length-power p d ∙ sym (length-sum p ds)) ∙ omega (arith, sum-total i ds)

  pub one_total : (ds es : List ℕ) → sum p ds ≡ sum p es → (i : ℕ) → total i ds % 2 ≡ total i es % 2
  one_total ds es e i = sym (sum-total i ds) ∙ ap (λ z. bit i z % 2) e ∙ sum-total i es

  pub equal_sums : (ds es : List ℕ) → ((i : ℕ) → (total i ds + total i es) % 2 ≡ 0) → sum p ds ≡ sum p es
  equal_sums ds es f =
      let l : length (sum p ds) ≡ length (sum p es) = length-sum p ds ∙ sym (length-sum p es) in
      equal_of_xor (sum p ds) (sum p es) l
      (all-zero (xor_bits (sum p ds) (sum p es)) (λ i. bit_xor i (sum p ds) (sum p es) l ∙ omega (arith, f i, sum-total i ds, sum-total i es))
      ∙ ap zeros (length-xor (sum p ds) (sum p es) l))

  pub even_of_sum : (ds : List ℕ) → sum p ds ≡ zeros (length p) → Even ds
  even_of_sum ds e i = sym (sum-total i ds) ∙ ap (λ z. bit i z % 2) e ∙ ap (λ n. n % 2) (bit-zeros i (length p))

  pub sum_of_even : (ds : List ℕ) → Even ds → sum p ds ≡ zeros (length p)
  sum_of_even ds f = all-zero (sum p ds) (λ i. sum-total i ds ∙ f i) ∙ ap zeros (length-sum p ds)

  pub brought_up : (n : ℕ) (ds : List ℕ) → Even ds → Even (map (λ d. d + n) ds)
  brought_up n ds f =
      even_of_sum (map (λ d. d + n) ds)
      (sym (divide-sum p n ds) ∙ ap (λ r. divide p r (zeros n)) (sum_of_even ds f) ∙ divide-zeros p (length p) n)
