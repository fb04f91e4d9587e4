-- Sums of powers that a shift by n keeps: they are 0 where x^n + 1 is a power of x. Assumes nothing.
use mathlib.Core.Path.{◌≡◌, refl, sym, ap, ap₂, ◌∙◌}
use Prim.Native.Nat.{ℕ, ◌+◌, ◌-◌, ◌*◌, ◌%◌, ◌<◌}
use native.Mathlib.Nat.{mul-add, mul_comm, mul_left_comm}
use native.Mathlib.Omega.{arith}
use mathlib.Core.Bool.{Bool, true}
use mathlib.Core.List.{List, [], ◌∷◌, map}
use lib.Dec.{T}
use lib.ListN.{length}
use Rattle.bits.specs.Strings.{xor_bits, zeros}
use Rattle.bits.proofs.Strings.{length-zeros, zeros-append}
use Rattle.division.specs.Division.{divide, power, PowerIsOne, constant_term}
use Rattle.division.proofs.Linear.{length-divide, divide-append}
use Rattle.division.proofs.Zeros.{divide-zeros, divide_injective}
use Rattle.division.proofs.Powers.{Kept, kept_rest, kept_multiple, one_add}
use Rattle.division.proofs.Order.{fermat, inverse}
use Rattle.division.proofs.Sums.{sum, length-sum, divide-sum}
use Rattle.division.proofs.Totals.{bit, total, Even, one_total, equal_sums, even_of_sum, sum_of_even, brought_up}

module _ (p r : List Bool) where
  -- what shifts by q m and by n keep, a shift by m keeps, where the prime q does not divide n
  pub kept_cofactor : (q m n : ℕ) → 0 < q → T (fermat q) → (n % q ≡ 0 → ⊥) → Kept p r (q * m) → Kept p r n → Kept p r m
  kept_cofactor q m n pos prime apart f g = go (inverse q n pos prime apart)
    where
      go : (u : ℕ) × (K : ℕ) × (u * n ≡ K * q + 1) → Kept p r m
      go (u, K, e) =
          let s : K * (q * m) + m ≡ m * (u * n) =
          omega (arith, ap (λ z. m * z) e, mul-add m (K * q) 1, mul_left_comm m K q, ap (λ z. K * z) (mul_comm m q)) in
          kept_rest p r (K * (q * m)) m (kept_multiple p r K (q * m) f)
          (ap (λ z. divide p r (zeros z)) s ∙ kept_multiple p r m (u * n) (kept_multiple p r u n g))

-- ---- sums of powers

-- where x^n is 1, each is kept
module _ (p : List Bool) (n : ℕ) (one : PowerIsOne p n) where
  sum_moved : (ds : List ℕ) → sum p (map (λ d. d + n) ds) ≡ sum p ds
  sum_moved [] = refl
  sum_moved (d ∷ ds) = ap₂ xor_bits (ap (power p) {x = d + n} {y = n + d} (omega arith) ∙ one_add p n d one) (sum_moved ds)

  pub kept_sum : (ds : List ℕ) → Kept p (sum p ds) n
  kept_sum ds = divide-sum p n ds ∙ sum_moved ds

-- where x^n + 1 is a power of x, none but 0
module _ (p : List Bool) (l : constant_term p ≡ true) (n e : ℕ) (z : sum p (n ∷ 0 ∷ e ∷ []) ≡ zeros (length p)) where
  even_three : Even p (n ∷ 0 ∷ e ∷ [])
  even_three = even_of_sum p (n ∷ 0 ∷ e ∷ []) z

  totals : (i : ℕ) (ds : List ℕ) → (total p i (map (λ d. d + n) ds) + total p i ds + total p i (map (λ d. d + e) ds)) % 2 ≡ 0
  totals i [] = refl
  totals i (d ∷ ds) =
      let t : ℕ → ℕ = λ k. bit i (power p k) in
      omega (
        arith,
        totals i ds,
        brought_up p d (n ∷ 0 ∷ e ∷ []) even_three i,
        ap t {x = d + n} {y = n + d} (omega arith),
        ap t {x = d} {y = 0 + d} (omega arith),
        ap t {x = d + e} {y = e + d} (omega arith),
      )

  pub kept_zero : (ds : List ℕ) → Kept p (sum p ds) n → sum p ds ≡ zeros (length p)
  kept_zero ds f =
      let same : sum p (map (λ d. d + n) ds) ≡ sum p ds = sym (divide-sum p n ds) ∙ f in
      let up : sum p (map (λ d. d + e) ds) ≡ zeros (length p) =
      sum_of_even p (map (λ d. d + e) ds) (λ i. omega (arith, totals i ds, one_total p (map (λ d. d + n) ds) ds same i)) in
      divide_injective p (sum p ds) (zeros (length p)) e l (length-sum p ds) (length-zeros (length p))
      (divide-sum p e ds ∙ up ∙ sym (divide-zeros p (length p) e))

-- a sum that x^u and x^v take to one is kept by a shift by u - v
pub kept_apart : (p : List Bool) → constant_term p ≡ true → (ds : List ℕ) (u v : ℕ) → v < u
    → ((i : ℕ) → (total p i (map (λ d. d + u) ds) + total p i (map (λ d. d + v) ds)) % 2 ≡ 0) → Kept p (sum p ds) (u - v)
kept_apart p l ds u v h f =
    let s = sum p ds in
    divide_injective p (divide p s (zeros (u - v))) s v l (length-divide p s (zeros (u - v)) (length-sum p ds)) (length-sum p ds)
    (sym (divide-append p s (zeros (u - v)) (zeros v)) ∙ ap (divide p s) (zeros-append (u - v) v ∙ ap zeros {x = u - v + v} {y = u} (omega arith))
    ∙ divide-sum p u ds ∙ equal_sums p (map (λ d. d + u) ds) (map (λ d. d + v) ds) f ∙ sym (divide-sum p v ds))
