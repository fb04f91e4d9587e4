-- A string modulo the divisor is the sum of its powers of x; sums of powers computed by squaring. Assumes nothing.
use mathlib.Core.Path.{◌≡◌, refl, sym, ap, ap₂, ◌∙◌}
use Prim.Native.Nat.{ℕ, zero, suc, ◌+◌, ◌*◌, ◌^◌, ◌≤◌, ◌<◌}
use native.Mathlib.Omega.{arith}
use mathlib.Core.Bool.{Bool, true, false, ◌&&◌}
use mathlib.Core.List.{List, [], ◌∷◌, ◌++◌, map}
use lib.Dec.{T, ltb, ltb→lt}
use lib.ListN.{length}
use Rattle.bits.specs.Strings.{xor_bits, zeros, weight, same}
use Rattle.bits.proofs.Strings.{length-zeros, length-xor, xor_bits-zeros, xor_bits_comm, xor_bits_assoc, equal_of_xor, same_sound}
use Rattle.bits.proofs.Tests.{both_true}
use Rattle.division.specs.Division.{divide, remainder, Divides, power}
use Rattle.division.proofs.Linear.{divide_linear}
use Rattle.division.proofs.Zeros.{leading, divide-zeros, divides_zeros}
use Rattle.division.proofs.Quotient.{remainder_lead}
use Rattle.division.proofs.Detection.{length-power}
use Rattle.division.proofs.Substitution.{spread_by, length-spread_by, spread_by-zeros, LeadIsRest, spread_remainder}
use Rattle.division.proofs.Powers.{fast_power, fast_power_lem, power-add}
use Rattle.division.proofs.Order.{squares}

-- the powers of x that a string has, the highest first
abbrev pub degrees : List Bool → List ℕ
degrees [] = []
degrees (true ∷ a) = length a ∷ degrees a
degrees (false ∷ a) = degrees a

abbrev pub sum : List Bool → List ℕ → List Bool
sum p [] = zeros (length p)
sum p (d ∷ ds) = xor_bits (power p d) (sum p ds)

pub length-sum : (p : List Bool) (ds : List ℕ) → length (sum p ds) ≡ length p
length-sum p [] = length-zeros (length p)
length-sum p (d ∷ ds) = length-xor (power p d) (sum p ds) (length-power p d ∙ sym (length-sum p ds)) ∙ length-sum p ds

pub remainder-sum : (p a : List Bool) → remainder p a ≡ sum p (degrees a)
remainder-sum p [] = divides_zeros p 0
remainder-sum p (true ∷ a) = remainder_lead p a ∙ ap (xor_bits (power p (length a))) (remainder-sum p a)
remainder-sum p (false ∷ a) = leading p 1 a ∙ remainder-sum p a

pub length-degrees : (a : List Bool) → length (degrees a) ≡ weight a
length-degrees [] = refl
length-degrees (true ∷ a) = ap suc (length-degrees a)
length-degrees (false ∷ a) = length-degrees a

-- each below the one before, and the first below n
abbrev pub Falling : ℕ → List ℕ → Type 0
Falling n [] = Unit
Falling n (d ∷ ds) = (d < n) × Falling d ds

falling_more : (n m : ℕ) (ds : List ℕ) → n ≤ m → Falling n ds → Falling m ds
falling_more n m [] h f = tt
falling_more n m (d ∷ ds) h f = (omega arith, f.1)

pub falling : (a : List Bool) → Falling (length a) (degrees a)
falling [] = tt
falling (true ∷ a) = (omega arith, falling a)
falling (false ∷ a) = falling_more (length a) (suc (length a)) (degrees a) (omega arith) (falling a)

-- the powers of a string with four bits set
pub record FourTerms (s : List Bool) : Type 0 where
  pub a : ℕ
  pub b : ℕ
  pub c : ℕ
  pub d : ℕ
  pub powers : degrees s ≡ a ∷ b ∷ c ∷ d ∷ []
  pub order : Falling (length s) (a ∷ b ∷ c ∷ d ∷ [])

pub four_terms : (s : List Bool) → weight s ≡ 4 → FourTerms s
four_terms s w = go (degrees s) refl (length-degrees s ∙ w)
  where
    go : (ds : List ℕ) → degrees s ≡ ds → length (degrees s) ≡ 4 → FourTerms s
    go [] e l = absurd (omega (arith, ap length e))
    go (a ∷ []) e l = absurd (omega (arith, ap length e))
    go (a ∷ b ∷ []) e l = absurd (omega (arith, ap length e))
    go (a ∷ b ∷ c ∷ []) e l = absurd (omega (arith, ap length e))
    go (a ∷ b ∷ c ∷ d ∷ []) e l = record { a = a; b = b; c = c; d = d; powers = e; order = rw e at (falling s) }
    go (a ∷ b ∷ c ∷ d ∷ f ∷ ds) e l = absurd (omega (arith, ap length e))

-- ---- sums that are 0

-- the powers of a multiple
pub no_remainder : (p a : List Bool) {ds : List ℕ} → Divides p a → degrees a ≡ ds → sum p ds ≡ zeros (length p)
no_remainder p a d e = ap (sum p) (sym e) ∙ sym (remainder-sum p a) ∙ d

-- two powers have the sum of the others
pub two_and_rest : (p : List Bool) (a b : ℕ) (ds : List ℕ) → sum p (a ∷ b ∷ ds) ≡ zeros (length p) → xor_bits (power p a) (power p b) ≡ sum p ds
two_and_rest p a b ds e =
    let x = power p a in
    let y = power p b in
    let l : length (xor_bits x y) ≡ length p = length-xor x y (length-power p a ∙ sym (length-power p b)) ∙ length-power p b in
    equal_of_xor (xor_bits x y) (sum p ds) (l ∙ sym (length-sum p ds)) (xor_bits_assoc x y (sum p ds) ∙ e ∙ ap zeros (sym (length-sum p ds)))

pub sum-one : (p : List Bool) (d : ℕ) → sum p (d ∷ []) ≡ power p d
sum-one p d = xor_bits_comm (power p d) (zeros (length p)) ∙ xor_bits-zeros (length p) (power p d) (length-power p d)

-- ---- sums of powers, computed

-- a test of every number of a list
abbrev pub each : (ℕ → Bool) → List ℕ → Bool
each f [] = true
each f (n ∷ ns) = f n && each f ns

-- the powers brought up by n
pub divide-sum : (p : List Bool) (n : ℕ) (ds : List ℕ) → divide p (sum p ds) (zeros n) ≡ sum p (map (λ d. d + n) ds)
divide-sum p n [] = divide-zeros p (length p) n
divide-sum p n (d ∷ ds) =
    ap (divide p (sum p (d ∷ ds))) (sym (xor_bits-zeros n (zeros n) (length-zeros n)))
    ∙ divide_linear p (power p d) (sum p ds) (zeros n) (zeros n) (length-power p d) (length-sum p ds) refl
    ∙ ap₂ xor_bits (sym (power-add p d n)) (divide-sum p n ds)

-- by squaring, each exponent of k binary digits
abbrev pub fast_sum : List Bool → ℕ → List ℕ → List Bool
fast_sum p k [] = zeros (length p)
fast_sum p k (d ∷ ds) = xor_bits (fast_power p k d) (fast_sum p k ds)

abbrev pub sum_is : List Bool → ℕ → List ℕ → List Bool → Bool
sum_is p k ds r = squares p && (each (λ d. ltb d (2 ^ k)) ds && same (fast_sum p k ds) r)

fast_sum_lem : (p : List Bool) (k : ℕ) (ds : List ℕ) → T (squares p) → T (each (λ d. ltb d (2 ^ k)) ds) → fast_sum p k ds ≡ sum p ds
fast_sum_lem p k [] s t = refl
fast_sum_lem p k (d ∷ ds) s t =
    let h = both_true (ltb d (2 ^ k)) (each (λ d. ltb d (2 ^ k)) ds) t in
    ap₂ xor_bits (fast_power_lem p (same_sound _ _ s) k d (ltb→lt d (2 ^ k) h.0)) (fast_sum_lem p k ds s h.1)

pub sum_is_lem : (p : List Bool) (k : ℕ) (ds : List ℕ) (r : List Bool) → T (sum_is p k ds r) → sum p ds ≡ r
sum_is_lem p k ds r t =
    let a = both_true (squares p) (each (λ d. ltb d (2 ^ k)) ds && same (fast_sum p k ds) r) t in
    let b = both_true (each (λ d. ltb d (2 ^ k)) ds) (same (fast_sum p k ds) r) a.1 in
    sym (fast_sum_lem p k ds a.0 b.0) ∙ same_sound _ _ b.1

-- ---- x^(k+1) put for x

degrees-zeros : (n : ℕ) (a : List Bool) → degrees (zeros n ++ a) ≡ degrees a
degrees-zeros zero a = refl
degrees-zeros (suc n) a = degrees-zeros n a

degrees-spread_by : (k : ℕ) (a : List Bool) → degrees (spread_by k a) ≡ map (λ d. suc k * d) (degrees a)
degrees-spread_by k [] = refl
degrees-spread_by k (true ∷ a) = degrees-zeros k (true ∷ spread_by k a) ∙ ap₂ ◌∷◌ (length-spread_by k a) (degrees-spread_by k a)
degrees-spread_by k (false ∷ a) = degrees-zeros k (false ∷ spread_by k a) ∙ degrees-spread_by k a

-- the powers of a multiple of g, each k + 1 times as high, have the sum 0 modulo q
pub spread-sum : (k : ℕ) (g q : List Bool) → LeadIsRest k g q → (a : List Bool) → Divides g a → sum q (map (λ d. suc k * d) (degrees a)) ≡ zeros (length q)
spread-sum k g q lead a d =
    sym (ap (sum q) (degrees-spread_by k a)) ∙ sym (remainder-sum q (spread_by k a)) ∙ sym (spread_remainder k g q lead a)
    ∙ ap (λ z. remainder q (spread_by k z)) d ∙ ap (remainder q) (spread_by-zeros k (length g)) ∙ divides_zeros q (suc k * length g)
