-- The columns one after the other hold every byte once. Assumes nothing.
use Rattle.std.proofs.Common.{◌≡◌, ℕ, zero, suc, ◌%◌, ◌<◌, ◌≤◌, ◌==◌, Bool, true, false, cond, nat_lt, ltb-true, ltb-false, List, [], ◌∷◌, ◌++◌, map, length, get_or, arith, ap, ◌∙◌, sym, refl, subst}
use Rattle.std.specs.List.{filter, range_with_len, count_by}
use Rattle.std.specs.List.Sorted.{IsPermutation}
use Rattle.std.proofs.Math.Nat.{mod-lt}
use Rattle.std.proofs.lemmas.List.FromFn.{fill_by_all}
use Rattle.std.proofs.lemmas.List.Sorted.{IsPermutation-refl, IsPermutation-sym, IsPermutation-trans, IsPermutation-cons, IsPermutation-middle, IsPermutation-append_left, IsPermutation-map, sum_by-IsPermutation}
use borrow.Author.Tests.{eqb-true, eqb-false, lt-ltb, le-ltb}
use Rattle.interleave.specs.Interleave.{column, order, interleave}
use Rattle.interleave.proofs.Order.{columns, columns_more}

module _ (key : ℕ → ℕ) where
  abbrev below : ℕ → List ℕ → List ℕ
  below k xs = filter (λ i. nat_lt (key i) k) xs

  abbrev having : ℕ → List ℕ → List ℕ
  having k xs = filter (λ i. key i == k) xs

  -- those with a key below k + 1 are those with a key below k and those with key k
  below-suc : (k : ℕ) (xs : List ℕ) → IsPermutation (below (suc k) xs) (below k xs ++ having k xs)
  below-suc k [] = IsPermutation-refl []
  below-suc k (x ∷ xs) = go (nat_lt (key x) (suc k)) refl (nat_lt (key x) k) refl (key x == k) refl (below-suc k xs)
    where
      go : (a : Bool) → nat_lt (key x) (suc k) ≡ a → (b : Bool) → nat_lt (key x) k ≡ b → (e : Bool) → (key x == k) ≡ e
          → IsPermutation (below (suc k) xs) (below k xs ++ having k xs)
          → IsPermutation (cond a (x ∷ below (suc k) xs) (below (suc k) xs)) (cond b (x ∷ below k xs) (below k xs) ++ cond e (x ∷ having k xs) (having k xs))
      go true p true q false r s = IsPermutation-cons x (below (suc k) xs) (below k xs ++ having k xs) s
      go true p false q true r s =
          IsPermutation-trans (x ∷ below (suc k) xs) (x ∷ (below k xs ++ having k xs)) (below k xs ++ x ∷ having k xs)
          (IsPermutation-cons x (below (suc k) xs) (below k xs ++ having k xs) s)
          (IsPermutation-sym (below k xs ++ x ∷ having k xs) (x ∷ (below k xs ++ having k xs)) (IsPermutation-middle (below k xs) x (having k xs)))
      go false p false q false r s = s
      go true p true q true r s = absurd (omega (arith, ltb-true (key x) k q, eqb-true (key x) k r))
      go true p false q false r s = absurd (let ne = eqb-false (key x) k r in omega (arith, ltb-true (key x) (suc k) p, ltb-false (key x) k q))
      go false p true q e r s = absurd (omega (arith, ltb-false (key x) (suc k) p, ltb-true (key x) k q))
      go false p false q true r s = absurd (omega (arith, ltb-false (key x) (suc k) p, eqb-true (key x) k r))

  -- no key is below 0, and all are below a bound
  below-zero : (xs : List ℕ) → below 0 xs ≡ []
  below-zero [] = refl
  below-zero (x ∷ xs) = ap (λ t. cond t (x ∷ below 0 xs) (below 0 xs)) (le-ltb (key x) 0 (omega arith)) ∙ below-zero xs

  below-all : (k : ℕ) → ((x : ℕ) → key x < k) → (xs : List ℕ) → below k xs ≡ xs
  below-all k b [] = refl
  below-all k b (x ∷ xs) = ap (λ t. cond t (x ∷ below k xs) (below k xs)) (lt-ltb (key x) k (b x)) ∙ ap (λ l. x ∷ l) (below-all k b xs)

-- ---- the order

module _ (d n : ℕ) (h : 1 ≤ d) where
  columns-permutation : (k : ℕ) → IsPermutation (below (λ i. i % d) k (range_with_len 0 n)) (columns d h n k)
  unfolding column
  columns-permutation zero =
      subst (λ l. IsPermutation l (columns d h n 0)) (sym (below-zero (λ i. i % d) (range_with_len 0 n))) (IsPermutation-refl [])
  columns-permutation (suc k) =
      let all = range_with_len 0 n in
      subst (λ l. IsPermutation (below (λ i. i % d) (suc k) all) l) (sym (columns_more d h n k))
      (IsPermutation-trans (below (λ i. i % d) (suc k) all) (below (λ i. i % d) k all ++ column d n k) (columns d h n k ++ column d n k)
      (below-suc (λ i. i % d) k all)
      (IsPermutation-append_left (column d n k) (below (λ i. i % d) k all) (columns d h n k) (columns-permutation k)))

  pub order-permutation : IsPermutation (range_with_len 0 n) (order d n)
  unfolding order
  order-permutation =
      subst (λ l. IsPermutation l (columns d h n d)) (below-all (λ i. i % d) d (λ x. mod-lt x h) (range_with_len 0 n)) (columns-permutation d)

-- ---- a text in that order

pub interleave-permutation : (d : ℕ) (text : List ℕ) → 1 ≤ d → IsPermutation text (interleave d text)
unfolding interleave
interleave-permutation d text h =
    let byte = λ (i : ℕ). get_or text i 0 in
    subst (λ l. IsPermutation l (map byte (order d (length text)))) (sym (fill_by_all byte text (length text) 0 refl (λ k l. refl)))
    (IsPermutation-map byte (range_with_len 0 (length text)) (order d (length text)) (order-permutation d (length text) h))

pub as_often : (b : ℕ) (xs ys : List ℕ) → IsPermutation xs ys → count_by (λ x. x == b) ys ≡ count_by (λ x. x == b) xs
as_often b xs ys p = sum_by-IsPermutation (λ x. cond (x == b) 1 0) xs ys p
