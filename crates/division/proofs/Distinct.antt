-- Whether the numbers of a list are distinct, by a test that the checker computes: they are split by their low bits. Assumes nothing.
use mathlib.Core.Path.{◌≡◌, refl, sym, ap, ◌∙◌}
use Prim.Native.Nat.{ℕ, zero, suc, ◌+◌, ◌/◌, ◌%◌, ◌≤◌}
use native.Mathlib.Omega.{arith}
use mathlib.Core.Bool.{Bool, true, false, ◌&&◌, cond, true≢false}
use mathlib.Core.List.{List, [], ◌∷◌}
use lib.Dec.{T, eqb}
use borrow.Author.Tests.{eqb-true, eq-eqb}
use Rattle.bits.specs.Differences.{cons_if}
use Rattle.bits.proofs.Tests.{both_true}

-- how often a number occurs
abbrev pub count : ℕ → List ℕ → ℕ
count x [] = 0
count x (n ∷ l) = cond (eqb x n) 1 0 + count x l

-- the even and the odd numbers of a list, halved and put before two lists, handed to a test
abbrev pub split : List ℕ → List ℕ → List ℕ → (List ℕ → List ℕ → Bool) → Bool
split [] a b test = test a b
split (n ∷ l) a b test = elim (n % 2) [ zero ↦ split l (n / 2 ∷ a) b test | suc r ↦ split l a (n / 2 ∷ b) test ]

-- a list of fewer than two numbers passes
abbrev pub or_few : List ℕ → (List ℕ → Bool) → Bool
or_few [] test = true
or_few (n ∷ []) test = true
or_few (n ∷ m ∷ l) test = test (n ∷ m ∷ l)

-- no number of at most k bits occurs twice
abbrev pub distinct : ℕ → List ℕ → Bool
distinct zero l = or_few l (λ m. false)
distinct (suc k) l = or_few l (λ m. split m [] [] (λ a b. distinct k a && distinct k b))

-- where the list is too long for one test: its numbers with the low bit r, halved and put before a list
abbrev pub half : ℕ → List ℕ → List ℕ → List ℕ
half r [] a = a
half r (n ∷ l) a = half r l (cons_if (eqb (n % 2) r) (n / 2) a)

-- ---- the test says what it is for

-- no number occurs twice
abbrev pub Once : List ℕ → Type 0
Once l = (x : ℕ) → count x l ≤ 1

-- how often a number with the low bit r has the upper bits x among the halves
abbrev count_in : ℕ → ℕ → List ℕ → List ℕ → ℕ
count_in zero x a b = count x a
count_in (suc r) x a b = count x b

-- what the test was handed: each number at least as often as it was in the list
record Handed (x n : ℕ) (test : List ℕ → List ℕ → Bool) : Type 0 where
  evens : List ℕ
  odds : List ℕ
  passed : T (test evens odds)
  more : n ≤ count_in (x % 2) (x / 2) evens odds

handed_less : {x n m : ℕ} {test : List ℕ → List ℕ → Bool} → m ≤ n → Handed x n test → Handed x m test
handed_less h r = record { evens = r.evens; odds = r.odds; passed = r.passed; more = omega (arith, r.more) }

put_even : (x n r : ℕ) (a b : List ℕ) → n % 2 ≡ 0 → x % 2 ≡ r → cond (eqb x n) 1 0 + count_in r (x / 2) a b ≤ count_in r (x / 2) (n / 2 ∷ a) b
put_even x n r a b e f = go (eqb x n) refl r f
  where
    go : (t : Bool) → eqb x n ≡ t → (r : ℕ) → x % 2 ≡ r → cond t 1 0 + count_in r (x / 2) a b ≤ count_in r (x / 2) (n / 2 ∷ a) b
    go true q zero g = omega (arith, ap {B = ℕ} (λ t. cond t 1 0) (eq-eqb (x / 2) (n / 2) (ap (λ z. z / 2) (eqb-true x n q))))
    go true q (suc r) g = absurd (omega (arith, eqb-true x n q))
    go false q zero g = omega arith
    go false q (suc r) g = omega arith

put_odd : (x n r s : ℕ) (a b : List ℕ) → n % 2 ≡ suc s → x % 2 ≡ r → cond (eqb x n) 1 0 + count_in r (x / 2) a b ≤ count_in r (x / 2) a (n / 2 ∷ b)
put_odd x n r s a b e f = go (eqb x n) refl r f
  where
    go : (t : Bool) → eqb x n ≡ t → (r : ℕ) → x % 2 ≡ r → cond t 1 0 + count_in r (x / 2) a b ≤ count_in r (x / 2) a (n / 2 ∷ b)
    go true q zero g = absurd (omega (arith, eqb-true x n q))
    go true q (suc r) g = omega (arith, ap {B = ℕ} (λ t. cond t 1 0) (eq-eqb (x / 2) (n / 2) (ap (λ z. z / 2) (eqb-true x n q))))
    go false q zero g = omega arith
    go false q (suc r) g = omega arith

handed : (x : ℕ) (l a b : List ℕ) (test : List ℕ → List ℕ → Bool) → T (split l a b test) → Handed x (count x l + count_in (x % 2) (x / 2) a b) test
handed x [] a b test t = record { evens = a; odds = b; passed = t; more = omega arith }
handed x (n ∷ l) a b test t = go (n % 2) refl t (λ c d u. handed x l c d test u)
  where
    go : (r : ℕ) → n % 2 ≡ r → T (elim r [ zero ↦ split l (n / 2 ∷ a) b test | suc s ↦ split l a (n / 2 ∷ b) test ])
        → ((c d : List ℕ) → T (split l c d test) → Handed x (count x l + count_in (x % 2) (x / 2) c d) test)
        → Handed x (count x (n ∷ l) + count_in (x % 2) (x / 2) a b) test
    go zero e u rest = handed_less (omega (arith, put_even x n (x % 2) a b e refl)) (rest (n / 2 ∷ a) b u)
    go (suc s) e u rest = handed_less (omega (arith, put_odd x n (x % 2) s a b e refl)) (rest a (n / 2 ∷ b) u)

few_count : (x : ℕ) (l : List ℕ) (test : List ℕ → Bool) → T (or_few l test) → (T (test l) → count x l ≤ 1) → count x l ≤ 1
few_count x [] test t f = omega arith
few_count x (n ∷ []) test t f = go (eqb x n)
  where
    go : (c : Bool) → cond c 1 0 + 0 ≤ 1
    go true = omega arith
    go false = omega arith
few_count x (n ∷ m ∷ l) test t f = f t

half_count : (r x : ℕ) (a b : List ℕ) (test : List ℕ → Bool) → T (test a && test b) → ((l : List ℕ) → T (test l) → count x l ≤ 1) → count_in r x a b ≤ 1
half_count zero x a b test t f = f a (both_true (test a) (test b) t).0
half_count (suc r) x a b test t f = f b (both_true (test a) (test b) t).1

pub distinct_once : (k : ℕ) (l : List ℕ) → T (distinct k l) → Once l
distinct_once zero l t x = few_count x l (λ m. false) t (λ f. absurd f)
distinct_once (suc k) l t x =
    few_count x l (λ m. split m [] [] (λ a b. distinct k a && distinct k b)) t
    (λ u.
    let h = handed x l [] [] (λ a b. distinct k a && distinct k b) u in
    omega (
      arith,
      h.more,
      half_count (x % 2) (x / 2) h.evens h.odds (λ m. distinct k m) h.passed (λ m v. distinct_once k m v (x / 2)),
    ))

put_half : (x n : ℕ) (a : List ℕ) → cond (eqb x n) 1 0 + count (x / 2) a ≤ count (x / 2) (cons_if (eqb (n % 2) (x % 2)) (n / 2) a)
put_half x n a = go (eqb x n) refl (eqb (n % 2) (x % 2)) refl
  where
    go : (s : Bool) → eqb x n ≡ s → (t : Bool) → eqb (n % 2) (x % 2) ≡ t → cond s 1 0 + count (x / 2) a ≤ count (x / 2) (cons_if t (n / 2) a)
    go true e true f = omega (arith, ap {B = ℕ} (λ t. cond t 1 0) (eq-eqb (x / 2) (n / 2) (ap (λ z. z / 2) (eqb-true x n e))))
    go true e false f = absurd (true≢false (sym (eq-eqb (n % 2) (x % 2) (ap (λ z. z % 2) (sym (eqb-true x n e)))) ∙ f))
    go false e true f = omega arith
    go false e false f = omega arith

half_more : (x : ℕ) (l a : List ℕ) → count x l + count (x / 2) a ≤ count (x / 2) (half (x % 2) l a)
half_more x [] a = omega arith
half_more x (n ∷ l) a = omega (arith, put_half x n a, half_more x l (cons_if (eqb (n % 2) (x % 2)) (n / 2) a))

pub halves_once : (l : List ℕ) → Once (half 0 l []) → Once (half 1 l []) → Once l
halves_once l even odd x = go (x % 2) refl
  where
    go : (r : ℕ) → x % 2 ≡ r → count x l ≤ 1
    go zero e = omega (arith, rw e at (half_more x l []), even (x / 2))
    go (suc zero) e = omega (arith, rw e at (half_more x l []), odd (x / 2))
    go (suc (suc r)) e = absurd (omega arith)
