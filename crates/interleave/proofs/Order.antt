-- The bytes of each column, and of all columns one after the other. Assumes nothing.
use Rattle.std.proofs.Common.{◌≡◌, ℕ, zero, suc, ◌+◌, ◌*◌, ◌/◌, ◌%◌, ◌<◌, ◌≤◌, ◌==◌, Bool, true, false, cond, List, [], ◌∷◌, ◌++◌, map, length, length-append, get_or, take, nat_lt, ltb-true, ltb-false, arith, ap, ap₂, ◌∙◌, sym, refl}
use Rattle.std.specs.List.{filter, flat_map, range_with_len}
use Rattle.std.proofs.Math.Nat.{mod-lt, mod-eq_of_lt, div-eq_of_lt}
use Rattle.std.proofs.lemmas.List.{map-id, append-nil}
use Rattle.std.proofs.lemmas.List.FromFn.{length-range_with_len, get_or-range_with_len, length-map-range_with_len, get_or-map-range_with_len, map-range_with_len_more, take-map-range_with_len, filter_of_map_range_with_len_more}
use Rattle.std.proofs.lemmas.List.Concat.{get_or-flat_map}
use Rattle.std.proofs.lemmas.Grind.{flat_map-append}
use borrow.Author.Tests.{eqb-true, eqb-false}
use Rattle.interleave.specs.Interleave.{column, order}
use Rattle.interleave.specs.Steps.{size, start}
use Rattle.interleave.proofs.Starts.{start-zero, start-suc, start-end, next-in-row, next-row, byte-of}

-- ---- ranges

range_more : (n : ℕ) → range_with_len 0 (n + 1) ≡ range_with_len 0 n ++ (n ∷ [])
range_more n =
    sym (map-id (range_with_len 0 (n + 1))) ∙ map-range_with_len_more (λ x. x) 0 n n (omega arith) ∙ ap (λ l. l ++ (n ∷ [])) (map-id (range_with_len 0 n))

range_take : (n k : ℕ) → k ≤ n → take k (range_with_len 0 n) ≡ range_with_len 0 k
range_take n k l = ap (take k) (sym (map-id (range_with_len 0 n))) ∙ take-map-range_with_len (λ x. x) 0 n k l ∙ map-id (range_with_len 0 k)

-- ---- one column: the bytes c, c + d, c + 2d and so on

-- the last of n + 1 bytes stands at the end of its column
column_more : (d n c : ℕ) → column d (n + 1) c ≡ column d n c ++ cond (n % d == c) (n ∷ []) []
unfolding column
column_more d n c =
    ap (filter (λ i. i % d == c)) (sym (map-id (range_with_len 0 (n + 1))))
    ∙ filter_of_map_range_with_len_more (λ i. i % d == c) (λ x. x) 0 n n (omega arith)
    ∙ ap (λ l. filter (λ i. i % d == c) l ++ cond (n % d == c) (n ∷ []) []) (map-id (range_with_len 0 n))

module _ (d : ℕ) (h : 1 ≤ d) where
  size-more : (n c : ℕ) → c < d → n % d ≡ c → size d (n + 1) c ≡ size d n c + 1
  size-more n c l e = go (nat_lt (suc (n % d)) d) refl
    where
      go : (t : Bool) → nat_lt (suc (n % d)) d ≡ t → size d (n + 1) c ≡ size d n c + 1
      go true t = omega (arith, next-in-row d n (ltb-true (suc (n % d)) d t))
      go false t =
          let f : suc (n % d) ≡ d = omega (arith, mod-lt n {m = d} h, ltb-false (suc (n % d)) d t) in
          omega (arith, next-row d n f)

  size-same : (n c : ℕ) → c < d → (n % d ≡ c → ⊥) → size d (n + 1) c ≡ size d n c
  size-same n c l ne = go (nat_lt (suc (n % d)) d) refl
    where
      go : (t : Bool) → nat_lt (suc (n % d)) d ≡ t → size d (n + 1) c ≡ size d n c
      go true t = omega (arith, next-in-row d n (ltb-true (suc (n % d)) d t))
      go false t =
          let f : suc (n % d) ≡ d = omega (arith, mod-lt n {m = d} h, ltb-false (suc (n % d)) d t) in
          omega (arith, next-row d n f)

  -- byte n stands behind all the rows of its column
  last : (n c : ℕ) → n % d ≡ c → c + size d n c * d ≡ n
  last n c e =
      let s : size d n c ≡ n / d = omega arith in
      ap (λ x. c + x * d) s ∙ (omega (arith, byte-of d n h n))

  column-zero : (c : ℕ) → column d 0 c ≡ map (λ r. c + r * d) (range_with_len 0 (size d 0 c))
  unfolding column
  column-zero c =
      let e : 0 ≡ size d 0 c = omega (arith, div-eq_of_lt {n = 0} {m = d} h, mod-eq_of_lt {n = 0} {m = d} h) in
      ap (λ s. map (λ r. c + r * d) (range_with_len 0 s)) e

  pub column_is : (n c : ℕ) → c < d → column d n c ≡ map (λ r. c + r * d) (range_with_len 0 (size d n c))
  column_is zero c l = column-zero c
  column_is (suc n) c l =
      let e : suc n ≡ n + 1 = omega arith in
      ap (λ x. column d x c) e ∙ column_more d n c ∙ go (n % d == c) refl (column_is n c l) ∙ ap (λ x. rows (size d x c)) (sym e)
    where
      rows : ℕ → List ℕ
      rows s = map (λ r. c + r * d) (range_with_len 0 s)

      go : (t : Bool) → (n % d == c) ≡ t → column d n c ≡ rows (size d n c) → column d n c ++ cond t (n ∷ []) [] ≡ rows (size d (n + 1) c)
      go true t below =
          let q = eqb-true (n % d) c t in
          ap (λ l. l ++ (n ∷ [])) below ∙ ap (λ x. rows (size d n c) ++ (x ∷ [])) (sym (last n c q))
          ∙ sym (map-range_with_len_more (λ r. c + r * d) 0 (size d n c) (size d n c) (omega arith)) ∙ ap rows (sym (size-more n c l q))
      go false t below = append-nil (column d n c) ∙ below ∙ ap rows (sym (size-same n c l (eqb-false (n % d) c t)))

  pub length-column : (n c : ℕ) → c < d → length (column d n c) ≡ size d n c
  length-column n c l = ap length (column_is n c l) ∙ length-map-range_with_len (λ r. c + r * d) 0 (size d n c)

  pub get_or-column : (n c r : ℕ) → c < d → r < size d n c → get_or (column d n c) r 0 ≡ c + r * d
  get_or-column n c r l s =
      ap (λ x. get_or x r 0) (column_is n c l) ∙ get_or-map-range_with_len (λ r. c + r * d) 0 (size d n c) r r 0 s (omega arith)

  -- ---- the columns one after the other

  abbrev pub columns : ℕ → ℕ → List ℕ
  columns n k = flat_map (column d n) (range_with_len 0 k)

  pub columns_more : (n k : ℕ) → columns n (suc k) ≡ columns n k ++ column d n k
  columns_more n k =
      let e : suc k ≡ k + 1 = omega arith in
      ap (λ x. flat_map (column d n) (range_with_len 0 x)) e ∙ ap (flat_map (column d n)) (range_more k) ∙ flat_map-append (column d n) (range_with_len 0 k) (k ∷ [])
      ∙ ap (λ l. columns n k ++ l) (append-nil (column d n k))

  length-columns : (n k : ℕ) → k ≤ d → length (columns n k) ≡ start d n k
  length-columns n zero l = start-zero d n
  length-columns n (suc k) l =
      ap length (columns_more n k) ∙ length-append (columns n k) (column d n k)
      ∙ ap₂ ◌+◌ (length-columns n k (omega arith)) (length-column n k l) ∙ sym (start-suc d n h k)

  pub length-order : (n : ℕ) → length (order d n) ≡ n
  unfolding order
  length-order n = length-columns n d (omega arith) ∙ start-end d n h

  -- the byte in column c and row r
  pub get_or-order : (n c r : ℕ) → c < d → r < size d n c → get_or (order d n) (start d n c + r) 0 ≡ c + r * d
  unfolding order
  get_or-order n c r l s =
      let i : c < length (range_with_len 0 d) = omega (arith, length-range_with_len 0 d) in
      let at : get_or (range_with_len 0 d) c 0 ≡ c = get_or-range_with_len 0 d c 0 l ∙ (omega arith) in
      let j : r < length (column d n (get_or (range_with_len 0 d) c 0)) = omega (arith, ap (λ x. length (column d n x)) at, length-column n c l) in
      ap (λ x. get_or (columns n d) (x + r) 0) (sym (ap (λ x. length (flat_map (column d n) x)) (range_take d c (omega arith)) ∙ length-columns n c (omega arith)))
      ∙ get_or-flat_map (column d n) (range_with_len 0 d) c r 0 0 i j ∙ ap (λ x. get_or (column d n x) r 0) at ∙ get_or-column n c r l s
