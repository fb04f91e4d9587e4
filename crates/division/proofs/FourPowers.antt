-- Four powers of x whose sum is 0 modulo p, and with it that of their squares and of their cubes: where a sum x^u + x^v of two powers takes
-- no other sum to 0, there are none. In characteristic 2, A + B + C + D = 0 and A^3 + B^3 + C^3 + D^3 = 0 give (A + B)(B + C)(C + A) = 0.
-- Assumes nothing.
use mathlib.Core.Path.{◌≡◌, sym, ap, ap₂, ◌∙◌}
use Prim.Native.Nat.{ℕ, suc, ◌+◌, ◌*◌, ◌%◌, ◌<◌}
use native.Mathlib.Nat.{one-mul}
use native.Mathlib.Omega.{arith}
use mathlib.Core.Bool.{Bool}
use mathlib.Core.List.{List, [], ◌∷◌, map}
use lib.ListN.{length}
use Rattle.bits.specs.Strings.{zeros}
use Rattle.division.specs.Division.{power}
use Rattle.division.specs.Laws.{NoMultiple}
use Rattle.division.proofs.Substitution.{LeadIsRest}
use Rattle.division.proofs.Sums.{sum, four_terms, spread-sum}
use Rattle.division.proofs.Totals.{bit, total, Even, even_of_sum, brought_up}

-- (x^u + x^v) times a sum is 0 only where the sum is, for u and v fewer than n apart
abbrev pub Cancels : List Bool → ℕ → Type 0
Cancels p n =
    (ds : List ℕ) (u v : ℕ) → v < u → u < v + n → ((i : ℕ) → (total p i (map (λ d. d + u) ds) + total p i (map (λ d. d + v) ds)) % 2 ≡ 0)
    → sum p ds ≡ zeros (length p)

-- ---- even numbers, and equal terms

even_add : (x y : ℕ) → x % 2 ≡ 0 → y % 2 ≡ 0 → (x + y) % 2 ≡ 0
even_add x y h k = omega arith

even_by : (x y m n : ℕ) → x % 2 ≡ 0 → y + 2 * m ≡ x + 2 * n → y % 2 ≡ 0
even_by x y m n h e = omega arith

equal_terms : (t : ℕ → ℕ) (a a' b b' c c' d d' : ℕ) → a ≡ a' → b ≡ b' → c ≡ c' → d ≡ d' → t a + (t b + (t c + (t d + 0))) ≡ t a' + (t b' + (t c' + (t d' + 0)))
equal_terms t a a' b b' c c' d d' p q r s = ap₂ (λ x y. t x + y) p (ap₂ (λ x y. t x + y) q (ap₂ (λ x y. t x + (t y + 0)) r s))

two_and_two : (t : ℕ → ℕ) (x x' y y' m n : ℕ) → x ≡ x' → y ≡ y'
    → t x + (t m + 0) + (t y + (t n + 0)) + 2 * 0 ≡ t x' + (t m + (t y' + (t n + 0))) + 2 * 0
two_and_two t x x' y y' m n p q = omega (arith, ap t p, ap t q)

one_and_one : (t : ℕ → ℕ) (x x' y y' : ℕ) → x ≡ x' → y ≡ y' → t x + 0 + (t y + 0) + 2 * 0 ≡ t y' + (t x' + 0) + 2 * 0
one_and_one t x x' y y' p q = omega (arith, ap t p, ap t q)

-- ---- products of three of the powers A, B, C and D, each by whether a bit of it is set

module _ (aaa bbb ccc ddd aab aac abb bbc acc bcc abc aad bbd ccd : ℕ) where
  -- A^2, B^2 and C^2 times A + B + C + D; D times the sum of the squares; the sum of the cubes
  abbrev five : ℕ
  five =
      (aaa + (aab + (aac + (aad + 0)))) + (abb + (bbb + (bbc + (bbd + 0)))) + (acc + (bcc + (ccc + (ccd + 0))))
      + (aad + (bbd + (ccd + (ddd + 0)))) + (aaa + (bbb + (ccc + (ddd + 0))))

  -- (A + B)(B + C)(C + A)
  abbrev left : ℕ
  left = (abc + (aab + (acc + (aac + 0)))) + (bbc + (abb + (bcc + (abc + 0))))

  pairwise : left + 2 * (aaa + bbb + ccc + ddd + aad + bbd + ccd) ≡ five + 2 * abc
  pairwise = omega arith

  left_even : (aaa + (aab + (aac + (aad + 0)))) % 2 ≡ 0 → (abb + (bbb + (bbc + (bbd + 0)))) % 2 ≡ 0 → (acc + (bcc + (ccc + (ccd + 0)))) % 2 ≡ 0
      → (aad + (bbd + (ccd + (ddd + 0)))) % 2 ≡ 0 → (aaa + (bbb + (ccc + (ddd + 0)))) % 2 ≡ 0 → left % 2 ≡ 0
  left_even p q r s t =
      even_by five left (aaa + bbb + ccc + ddd + aad + bbd + ccd) abc (even_add _ _ (even_add _ _ (even_add _ _ (even_add _ _ p q) r) s) t) pairwise

-- ---- four powers, the highest first

module _ (p : List Bool) (one_not_zero : sum p (0 ∷ []) ≡ zeros (length p) → ⊥) (n : ℕ) (cancels : Cancels p n) (a b c d : ℕ)
    (one : Even p (a ∷ b ∷ c ∷ d ∷ [])) (two : Even p (2 * a ∷ 2 * b ∷ 2 * c ∷ 2 * d ∷ [])) (three : Even p (3 * a ∷ 3 * b ∷ 3 * c ∷ 3 * d ∷ [])) where
  -- (B + C)(C + A)
  abbrev rest : List ℕ
  rest = (b + c) ∷ (a + b) ∷ 2 * c ∷ (a + c) ∷ []

  -- times A + B it is 0
  product : (i : ℕ) → (total p i (map (λ n. n + a) rest) + total p i (map (λ n. n + b) rest)) % 2 ≡ 0
  product i =
      let t : ℕ → ℕ = λ k. bit i (power p k) in
      ap (λ n. n % 2)
      (ap₂ ◌+◌
      (equal_terms t (b + c + a) (a + b + c) (a + b + a) (2 * a + b) (2 * c + a) (a + 2 * c) (a + c + a) (2 * a + c) (omega arith) (omega arith) (omega arith) (omega arith))
      (equal_terms t (b + c + b) (2 * b + c) (a + b + b) (a + 2 * b) (2 * c + b) (b + 2 * c) (a + c + b) (a + b + c) (omega arith) (omega arith) (omega arith) (omega arith)))
      ∙ left_even (t (3 * a)) (t (3 * b)) (t (3 * c)) (t (3 * d)) (t (2 * a + b)) (t (2 * a + c)) (t (a + 2 * b)) (t (2 * b + c)) (t (a + 2 * c)) (t (b + 2 * c))
      (t (a + b + c)) (t (2 * a + d)) (t (2 * b + d)) (t (2 * c + d))
      (ap (λ n. n % 2) (equal_terms t (3 * a) (a + 2 * a) (2 * a + b) (b + 2 * a) (2 * a + c) (c + 2 * a) (2 * a + d) (d + 2 * a) (omega arith) (omega arith) (omega arith) (omega arith))
      ∙ brought_up p (2 * a) (a ∷ b ∷ c ∷ d ∷ []) one i)
      (ap (λ n. n % 2) (equal_terms t (a + 2 * b) (a + 2 * b) (3 * b) (b + 2 * b) (2 * b + c) (c + 2 * b) (2 * b + d) (d + 2 * b) (omega arith) (omega arith) (omega arith) (omega arith))
      ∙ brought_up p (2 * b) (a ∷ b ∷ c ∷ d ∷ []) one i)
      (ap (λ n. n % 2) (equal_terms t (a + 2 * c) (a + 2 * c) (b + 2 * c) (b + 2 * c) (3 * c) (c + 2 * c) (2 * c + d) (d + 2 * c) (omega arith) (omega arith) (omega arith) (omega arith))
      ∙ brought_up p (2 * c) (a ∷ b ∷ c ∷ d ∷ []) one i)
      (ap (λ n. n % 2) (equal_terms t (2 * a + d) (2 * a + d) (2 * b + d) (2 * b + d) (2 * c + d) (2 * c + d) (3 * d) (2 * d + d) (omega arith) (omega arith) (omega arith) (omega arith))
      ∙ brought_up p d (2 * a ∷ 2 * b ∷ 2 * c ∷ 2 * d ∷ []) two i)
      (three i)

  -- so there are no such powers where no two are n or more apart
  pub no_four : b < a → c < b → a < c + n → ⊥
  no_four h k l =
      let r : sum p rest ≡ zeros (length p) = cancels rest a b h (omega arith) product in
      let q : sum p (c ∷ a ∷ []) ≡ zeros (length p) =
      cancels (c ∷ a ∷ []) b c k (omega arith)
      (λ i.
      even_by (total p i rest) _ 0 0 (even_of_sum p rest r i)
      (two_and_two (λ k. bit i (power p k)) (c + b) (b + c) (c + c) (2 * c) (a + b) (a + c) (omega arith) (omega arith))) in
      one_not_zero
      (cancels (0 ∷ []) a c (omega arith) l
      (λ i.
      even_by (total p i (c ∷ a ∷ [])) _ 0 0 (even_of_sum p (c ∷ a ∷ []) q i)
      (one_and_one (λ k. bit i (power p k)) (0 + a) a (0 + c) c (omega arith) (omega arith))))

-- ---- no multiple of g has four terms among n + 1 bits, where q divides g, and g at x^2 and at x^3

pub no_multiple_of_four : (g q : List Bool) → ((k : ℕ) → k < 3 → LeadIsRest k g q) → (sum q (0 ∷ []) ≡ zeros (length q) → ⊥) → (n : ℕ) → Cancels q n
    → NoMultiple 4 (suc n) g
no_multiple_of_four g q leads one_not_zero n cancels s short divides w =
    let f = four_terms s w in
    let o = f.order in
    let even : (k : ℕ) → k < 3 → Even q (map (λ d. suc k * d) (f.a ∷ f.b ∷ f.c ∷ f.d ∷ [])) =
    λ k h. even_of_sum q (map (λ d. suc k * d) (f.a ∷ f.b ∷ f.c ∷ f.d ∷ []))
    (ap (λ ds. sum q (map (λ d. suc k * d) ds)) (sym f.powers) ∙ spread-sum k g q (leads k h) s divides) in
    no_four q one_not_zero n cancels f.a f.b f.c f.d (simp one-mul at (even 0 (omega arith))) (even 1 (omega arith)) (even 2 (omega arith))
    (omega (arith, o.1.0)) (omega (arith, o.1.1.0)) (omega (arith, o.0, o.1.1.1.0))
