-- Changed columns whose rows sum to zero, with the change of their diagonal character: six bits or more, or two bits of each of two
-- columns a multiple of 7 apart. Assumes nothing.
use mathlib.Core.Path.{◌≡◌, sym, ap, ap₂, subst, refl, ◌∙◌}
use Prim.Native.Nat.{ℕ, zero, suc, ◌+◌, ◌%◌, ◌≤◌}
use native.Mathlib.Omega.{arith}
use mathlib.Core.Bool.{Bool}
use mathlib.Core.List.{List, [], ◌∷◌, ◌++◌, append_assoc, append-nil}
use mathlib.Core.Logic.{◌⊎◌, inl, inr}
use lib.ListN.{length, length-append, length-replicate, replicate}
use Rattle.bits.specs.Strings.{xor_bits, zeros, ones, weight}
use Rattle.bits.proofs.Strings.{equal_of_xor}
use Rattle.block.specs.Diagonals.{turned}
use Rattle.block.proofs.DiagonalRegister.{Seven, Sevens, length_seven, seven-xor, turns, seven-turns}
use Rattle.guarantees.specs.Columns.{TwoColumnsApart}
use Rattle.guarantees.proofs.Blocks.Turns.{weight-turns, kept_by_turns}
use Rattle.guarantees.proofs.Blocks.ChangedColumns.{column_weight, sum_of, no_weight, unchanged, weight_of, Column, Changed, none, one, two, more, changed, weight-unchanged, weight_two, sum_one, sum_two, turned-unchanged, turned_two}

-- of each set bit the number of its column, where the first has the number j
abbrev pub columns_set : ℕ → List (List Bool) → List ℕ
columns_set j [] = []
columns_set j (v ∷ vs) = replicate (column_weight v) j ++ columns_set (j + 1) vs

-- ---- the columns of the set bits

columns_before : (n j : ℕ) (vs : List (List Bool)) → columns_set j (unchanged n ++ vs) ≡ columns_set (j + n) vs
columns_before zero j vs = let e : j ≡ j + 0 = omega arith in ap (λ k. columns_set k vs) e
columns_before (suc n) j vs =
    let e : j + 1 + n ≡ j + suc n = omega arith in
    columns_before n (j + 1) vs ∙ ap (λ k. columns_set k vs) e

length-columns : (j : ℕ) (vs : List (List Bool)) → length (columns_set j vs) ≡ weight_of vs
length-columns j [] = refl
length-columns j (v ∷ vs) =
    length-append (replicate (column_weight v) j) (columns_set (j + 1) vs)
    ∙ ap₂ (λ a b. a + b) (length-replicate (column_weight v) j) (length-columns (j + 1) vs)

weight_snoc : (vs : List (List Bool)) (v : List Bool) → weight_of (vs ++ v ∷ []) ≡ weight_of vs + column_weight v
weight_snoc [] v = omega arith
weight_snoc (w ∷ vs) v = omega (arith, weight_snoc vs v)

-- ---- the columns with their diagonal character

pub data Bound (n : ℕ) (columns : List ℕ) : Type 0 where
  six : 6 ≤ length columns → Bound n columns
  four : TwoColumnsApart 7 n columns → Bound n columns

abbrev pub with_diagonal : List (List Bool) → List (List Bool)
with_diagonal vs = vs ++ turned (zeros 7) vs ∷ []

six_bits : (vs : List (List Bool)) → 6 ≤ weight_of vs + column_weight (turned (zeros 7) vs) → Bound (length vs) (columns_set 1 (with_diagonal vs))
six_bits vs h = six (omega (arith, length-columns 1 (with_diagonal vs), weight_snoc vs (turned (zeros 7) vs)))

pub nothing_changed : (n : ℕ) → length (columns_set 1 (with_diagonal (unchanged n))) ≡ 0
nothing_changed n =
    let vs = unchanged n in
    omega (
      arith,
      length-columns 1 (with_diagonal vs),
      weight_snoc vs (turned (zeros 7) vs),
      weight-unchanged n [],
      ap (λ l. weight_of l) (append-nil vs),
      ap weight (turned-unchanged n),
    )

columns_two : (a b c : ℕ) (v : List Bool) → column_weight v ≡ 2 → (q : List Bool) → column_weight q ≡ 0
    → columns_set 1 ((unchanged a ++ v ∷ (unchanged b ++ v ∷ unchanged c)) ++ q ∷ [])
    ≡ (1 + a) ∷ (1 + a) ∷ (1 + a + 1 + b) ∷ (1 + a + 1 + b) ∷ []
columns_two a b c v e q z =
    ap (columns_set 1)
    (append_assoc (unchanged a) (v ∷ (unchanged b ++ v ∷ unchanged c)) (q ∷ [])
    ∙ ap (λ r. unchanged a ++ v ∷ r) (append_assoc (unchanged b) (v ∷ unchanged c) (q ∷ [])))
    ∙ columns_before a 1 (v ∷ (unchanged b ++ v ∷ (unchanged c ++ q ∷ [])))
    ∙ ap (λ n. replicate n (1 + a) ++ columns_set (1 + a + 1) (unchanged b ++ v ∷ (unchanged c ++ q ∷ []))) e
    ∙ ap (λ r. (1 + a) ∷ (1 + a) ∷ r)
    (columns_before b (1 + a + 1) (v ∷ (unchanged c ++ q ∷ []))
    ∙ ap (λ n. replicate n (1 + a + 1 + b) ++ columns_set (1 + a + 1 + b + 1) (unchanged c ++ q ∷ [])) e
    ∙ ap (λ r. (1 + a + 1 + b) ∷ (1 + a + 1 + b) ∷ r)
    (columns_before c (1 + a + 1 + b + 1) (q ∷ []) ∙ ap (λ n. replicate n (1 + a + 1 + b + 1 + c) ++ []) z))

module _ (a b c : ℕ) (v : List Bool) (h : Column v) where
  abbrev pair : List (List Bool)
  pair = unchanged a ++ v ∷ (unchanged b ++ v ∷ unchanged c)

  -- what the diagonals show of it
  abbrev shown : List Bool
  shown = xor_bits (turns (suc b) v) v

  seven-shown : Seven shown
  seven-shown = seven-xor (seven-turns (suc b) h.bits) h.bits

  weight-diagonal : weight (turned (zeros 7) pair) ≡ weight shown
  weight-diagonal = ap weight (turned_two a b c h.bits) ∙ weight-turns (suc c) seven-shown

  weight-pair : weight_of pair ≡ column_weight v + (column_weight v + weight_of (unchanged c))
  weight-pair = weight_two a b c v v

  length-pair : length pair ≡ a + suc (b + suc c)
  length-pair =
      omega (
        arith,
        length-append (unchanged a) (v ∷ (unchanged b ++ v ∷ unchanged c)),
        length-append (unchanged b) (v ∷ unchanged c),
        length-replicate a (zeros 7),
        length-replicate b (zeros 7),
        length-replicate c (zeros 7),
      )

  not_shown : column_weight shown ≡ 0 → turns (suc b) v ≡ v
  not_shown z =
      equal_of_xor (turns (suc b) v) v (length_seven (seven-turns (suc b) h.bits) ∙ sym (length_seven h.bits))
      (no_weight seven-shown z ∙ ap zeros (sym (length_seven h.bits)))

  seven_apart : column_weight v ≡ 2 → column_weight shown ≡ 0 → suc b % 7 ≡ 0 → TwoColumnsApart 7 (length pair) (columns_set 1 (with_diagonal pair))
  seven_apart e z r =
      record {
        first = 1 + a;
        second = 1 + a + 1 + b;
        two_each = columns_two a b c v e (turned (zeros 7) pair) (omega (arith, weight-diagonal));
        within = (omega arith, omega arith, omega (arith, length-pair));
        apart = omega arith;
      }

  pair_bound : Bound (length pair) (columns_set 1 (with_diagonal pair))
  pair_bound = go (column_weight shown) refl
    where
      by_weight : column_weight shown ≡ 0 → suc b % 7 ≡ 0 → (n : ℕ) → column_weight v ≡ n → Bound (length pair) (columns_set 1 (with_diagonal pair))
      by_weight z r zero e = absurd (omega (arith, h.set))
      by_weight z r (suc zero) e = absurd (omega (arith, h.set))
      by_weight z r (suc (suc zero)) e = four (seven_apart e z r)
      by_weight z r (suc (suc (suc n))) e = six_bits pair (omega (arith, weight-pair))

      all_or_none : (v ≡ zeros 7) ⊎ (v ≡ ones 7) → Bound (length pair) (columns_set 1 (with_diagonal pair))
      all_or_none (inl e) = absurd (omega (arith, h.set, ap weight e))
      all_or_none (inr e) = six_bits pair (omega (arith, weight-pair, ap weight e))

      by_residue : column_weight shown ≡ 0 → (k : ℕ) → suc b % 7 ≡ k → Bound (length pair) (columns_set 1 (with_diagonal pair))
      by_residue z zero r = by_weight z r (column_weight v) refl
      by_residue z (suc k) r = all_or_none (kept_by_turns (suc b) h.bits (not_shown z) (λ e. omega arith))

      go : (n : ℕ) → column_weight shown ≡ n → Bound (length pair) (columns_set 1 (with_diagonal pair))
      go zero e = by_residue e (suc b % 7) refl
      go (suc zero) e = absurd (omega arith)
      go (suc (suc n)) e = six_bits pair (omega (arith, weight-pair, weight-diagonal, h.set))

-- changed columns whose sum is zero, with the change of their diagonal character
pub changed_bound : {vs : List (List Bool)} → Sevens vs → sum_of vs ≡ zeros 7 → (vs ≡ unchanged (length vs) → ⊥)
    → Bound (length vs) (columns_set 1 (with_diagonal vs))
changed_bound h e n = go (changed h) e n
  where
    go : {vs : List (List Bool)} → Changed vs → sum_of vs ≡ zeros 7 → (vs ≡ unchanged (length vs) → ⊥)
        → Bound (length vs) (columns_set 1 (with_diagonal vs))
    go (none m) e n = absurd (n (ap unchanged (sym (length-replicate m (zeros 7)))))
    go (one a b {v} k) e n = absurd (omega (arith, k.set, ap weight (sym (sum_one a b k.bits) ∙ e)))
    go (two a b c {v} {w} k l) e n =
        let q : v ≡ w =
        equal_of_xor v w (length_seven k.bits ∙ sym (length_seven l.bits))
        (sym (sum_two a b c k.bits l.bits) ∙ e ∙ ap zeros (sym (length_seven l.bits))) in
        subst (λ z. Bound (length (unchanged a ++ v ∷ (unchanged b ++ z ∷ unchanged c)))
        (columns_set 1 (with_diagonal (unchanged a ++ v ∷ (unchanged b ++ z ∷ unchanged c))))) q (pair_bound a b c v k)
    go (more vs l) e n = six_bits vs (omega arith)
