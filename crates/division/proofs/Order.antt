-- The order of x from a certificate: x^N is 1, and x^(N/q) is not for each prime q of a list. All of it is computed. Assumes nothing.
use mathlib.Core.Path.{◌≡◌, refl, sym, ap, ◌∙◌}
use mathlib.Core.Logic.{inl, inr}
use Prim.Native.Nat.{ℕ, zero, suc, ◌+◌, ◌-◌, ◌*◌, ◌/◌, ◌%◌, ◌^◌, ◌<◌}
use native.Mathlib.Decide.{ℕ_discrete}
use native.Mathlib.Nat.{mul-mod_right, mul-mul-mul_comm, eq-or-lt_of_le, le_of_suc-le-suc, mul_assoc, mul_comm, mul_left_comm, add-mul, mul-add, one-mul, mod-lt, div-add-mod'}
use native.Mathlib.Omega.{arith}
use mathlib.Core.Bool.{Bool, true, false, not, ◌&&◌}
use mathlib.Core.List.{List, [], ◌∷◌}
use lib.Dec.{T, T_not, ltb, ltb→lt, eqb, eqb→eq}
use lib.ListN.{length}
use Rattle.bits.specs.Strings.{same}
use Rattle.bits.proofs.Strings.{same_sound, same_self}
use Rattle.division.specs.Division.{power, PowerIsOne}
use Rattle.division.proofs.Powers.{square, fast_power, fast_power_lem, one_add, one_multiple}

-- ---- tests over numbers

pub both : (a b : Bool) → T (a && b) → T a × T b
both true b t = (tt, t)
both false b t = absurd t

-- a test at every number below n
abbrev pub all : (ℕ → Bool) → ℕ → Bool
all f zero = true
all f (suc n) = f n && all f n

pub all_at : (f : ℕ → Bool) (n i : ℕ) → T (all f n) → i < n → T (f i)
all_at f zero i t h = absurd (omega arith)
all_at f (suc n) i t h =
    let s : T (f n) × T (all f n) = both (f n) (all f n) t in
    elim (eq-or-lt_of_le (le_of_suc-le-suc h)) [ inl e ↦ rw e s.0 | inr l ↦ all_at f n i s.1 l ]

-- ---- a prime factor: where x^(M q m) is 1 and x^(M m) is not, x^(M n) is 1 for multiples n of q only

-- each residue of q but 0 has an inverse, its power q - 2: this holds of a prime
abbrev pub fermat : ℕ → Bool
fermat q = all (λ r. eqb (suc r ^ (q - 2) * suc r % q) 1) (q - 1)

pub inverse : (q d : ℕ) → 0 < q → T (fermat q) → (d % q ≡ 0 → ⊥) → (u : ℕ) × (K : ℕ) × (u * d ≡ K * q + 1)
inverse q d h t f = go (d % q) refl
  where
    go : (r : ℕ) → d % q ≡ r → (u : ℕ) × (K : ℕ) × (u * d ≡ K * q + 1)
    go zero e = absurd (f e)
    go (suc r) e =
        let u = suc r ^ (q - 2) in
        let v = u * suc r in
        let w : v % q ≡ 1 = eqb→eq (v % q) 1 (all_at (λ r. eqb (suc r ^ (q - 2) * suc r % q) 1) (q - 1) r t (omega (arith, mod-lt d h))) in
        let f1 : u * d ≡ u * (d / q * q + suc r) = ap (λ z. u * z) (sym (div-add-mod' d q) ∙ ap (λ z. d / q * q + z) e) in
        (u, u * (d / q) + v / q, omega (arith, f1, mul-add u (d / q * q) (suc r), mul_assoc u (d / q) q, add-mul (u * (d / q)) (v / q) q, div-add-mod' v q))

factor_sum : (q M m n u K : ℕ) → u * n ≡ K * q + 1 → K * (M * (q * m)) + M * m ≡ (u * m) * (M * n)
factor_sum q M m n u K w =
    let f1 : (u * m) * (M * n) ≡ (M * m) * (u * n) = ap (λ z. z * (M * n)) (mul_comm u m) ∙ mul-mul-mul_comm m u M n ∙ ap (λ z. z * (u * n)) (mul_comm m M) in
    let f2 : (M * m) * (u * n) ≡ (M * m) * (K * q + 1) = ap (λ z. (M * m) * z) w in
    let f3 : (M * m) * (K * q) ≡ K * (M * (q * m)) = mul_left_comm (M * m) K q ∙ ap (λ z. K * z) (mul_assoc M m q ∙ ap (λ z. M * z) (mul_comm m q)) in
    omega (arith, mul-add (M * m) (K * q) 1)

factor : (p : List Bool) (q M m n : ℕ) → 0 < q → T (fermat q) → PowerIsOne p (M * (q * m)) → (PowerIsOne p (M * m) → ⊥) → PowerIsOne p (M * n) → n % q ≡ 0
factor p q M m n h t e f g = elim (ℕ_discrete (n % q) 0) [ yes z ↦ z | no z ↦ absurd (f (one (inverse q n h t z))) ]
  where
    one : (u : ℕ) × (K : ℕ) × (u * n ≡ K * q + 1) → PowerIsOne p (M * m)
    one (u, K, w) =
        sym (one_add p (K * (M * (q * m))) (M * m) (one_multiple p K (M * (q * m)) e))
        ∙ ap (power p) (factor_sum q M m n u K w) ∙ one_multiple p (u * m) (M * n) g

-- ---- the certificate

-- x^n is 1, or is not, by squaring, for an n of k binary digits
abbrev pub is_one : List Bool → ℕ → ℕ → Bool
is_one p k n = ltb n (2 ^ k) && same (fast_power p k n) (power p 0)

abbrev pub is_not_one : List Bool → ℕ → ℕ → Bool
is_not_one p k n = ltb n (2 ^ k) && not (same (fast_power p k n) (power p 0))

abbrev pub squares : List Bool → Bool
squares p = same (square p p) (power p (length p + length p))

-- x^(M * L / q) is not 1 for each prime q of the list, which moves from L to M
abbrev pub primes : List Bool → ℕ → ℕ → ℕ → List ℕ → Bool
primes p k M L [] = true
primes p k M L (q ∷ qs) = ((ltb 0 q && fermat q) && (eqb (q * (L / q)) L && is_not_one p k (M * (L / q)))) && primes p k (M * q) (L / q) qs

abbrev pub certified : List Bool → ℕ → ℕ → List ℕ → Bool
certified p k N qs = (squares p && is_one p k N) && primes p k 1 N qs

abbrev pub product : ℕ → List ℕ → ℕ
product M [] = M
product M (q ∷ qs) = product (M * q) qs

is_one_lem : (p : List Bool) (k n : ℕ) → T (squares p) → T (is_one p k n) → PowerIsOne p n
is_one_lem p k n s t =
    let h = both (ltb n (2 ^ k)) (same (fast_power p k n) (power p 0)) t in
    sym (fast_power_lem p (same_sound _ _ s) k n (ltb→lt n (2 ^ k) h.0)) ∙ same_sound _ _ h.1

pub is_not_one_lem : (p : List Bool) (k n : ℕ) → T (squares p) → T (is_not_one p k n) → PowerIsOne p n → ⊥
is_not_one_lem p k n s t e =
    let h = both (ltb n (2 ^ k)) (not (same (fast_power p k n) (power p 0))) t in
    T_not (same (fast_power p k n) (power p 0)) h.1
    (rw (fast_power_lem p (same_sound _ _ s) k n (ltb→lt n (2 ^ k) h.0), e, same_self (power p 0)) tt)

chain : (p : List Bool) (k M L : ℕ) (qs : List ℕ) → T (squares p) → T (primes p k M L qs) → PowerIsOne p (M * L) → (n : ℕ) → PowerIsOne p (M * n)
    → M * n % product M qs ≡ 0
chain p k M L [] s t o n e = mul-mod_right M n
chain p k M L (q ∷ qs) s t o n e =
    let a = both ((ltb 0 q && fermat q) && (eqb (q * (L / q)) L && is_not_one p k (M * (L / q)))) (primes p k (M * q) (L / q) qs) t in
    let b = both (ltb 0 q && fermat q) (eqb (q * (L / q)) L && is_not_one p k (M * (L / q))) a.0 in
    let c = both (ltb 0 q) (fermat q) b.0 in
    let f = both (eqb (q * (L / q)) L) (is_not_one p k (M * (L / q))) b.1 in
    let l : q * (L / q) ≡ L = eqb→eq (q * (L / q)) L f.0 in
    let z : n % q ≡ 0 = factor p q M (L / q) n (ltb→lt 0 q c.0) c.1 (rw l o) (is_not_one_lem p k (M * (L / q)) s f.1) e in
    let y : M * q * (n / q) ≡ M * n = mul_assoc M q (n / q) ∙ ap (λ v. M * v) (omega (arith, div-add-mod' n q, mul_comm q (n / q))) in
    rw (← y) (chain p k (M * q) (L / q) qs s a.1 (ap (power p) (mul_assoc M q (L / q) ∙ ap (λ v. M * v) l) ∙ o) (n / q) (ap (power p) y ∙ e))

-- x^N is 1, and x^d is 1 only at multiples of the product of the list
pub order : (p : List Bool) (k N : ℕ) (qs : List ℕ) → T (certified p k N qs) → PowerIsOne p N × ((d : ℕ) → PowerIsOne p d → d % product 1 qs ≡ 0)
order p k N qs t =
    let a = both (squares p && is_one p k N) (primes p k 1 N qs) t in
    let b = both (squares p) (is_one p k N) a.0 in
    let o = is_one_lem p k N b.0 b.1 in
    (o, λ d e. rw one-mul at (chain p k 1 N qs b.0 a.1 (rw one-mul o) d (rw one-mul e)))
