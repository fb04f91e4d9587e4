-- Blocks of method 7: with right parities, row check and diagonal character, lines differ in six bits or more, or in two columns a
-- multiple of 7 apart. Assumes nothing.
use mathlib.Core.Path.{◌≡◌, refl, sym, ap, ap₂, ◌∙◌}
use Prim.Native.Nat.{ℕ, ◌+◌, ◌*◌, ◌≤◌}
use native.Mathlib.Omega.{arith}
use mathlib.Core.Bool.{xor}
use mathlib.Core.List.{List, [], ◌∷◌, ◌++◌, map, map-append, append_assoc}
use lib.ListN.{length, length-append, length-drop, length-map}
use Rattle.bits.specs.Strings.{xor_bits, zeros, parity}
use Rattle.bits.specs.Bytes.{low_bits, bits_of}
use Rattle.bits.specs.Differences.{differing}
use Rattle.bits.proofs.Strings.{append_split}
use Rattle.bits.proofs.Bytes.{length-low_bits, length-bits_of, bits_of_one}
use Rattle.bits.proofs.Differences.{equal_of_differing}
use Rattle.block.specs.declared.Method.TheVariants as method
use Rattle.block.specs.declared.Parity.{Parity}
use Rattle.block.specs.Signs.{CodeTable}
use Rattle.block.specs.Characters.{is_odd}
use Rattle.block.specs.Marks.{counted, check_bytes}
use Rattle.block.specs.Read.{Parts, taken, read_block}
use Rattle.block.specs.Diagonals.{diagonal_bits, turned}
use Rattle.block.specs.Check.{row_sums, matrix_check, columns_of, diagonal_check, check_of}
use Rattle.block.proofs.DiagonalRegister.{length-diagonal_bits}
use Rattle.block.proofs.CheckLaws.{length-sums, length_matrix, diagonal-turned, check_length_lem}
use Rattle.guarantees.specs.Lines.{TwoAccepted, distance, differing_checked, AtLeast}
use Rattle.guarantees.specs.Columns.{Counted, differing_columns, column_of, TwoColumnsApart, FourWhereApart, AtLeastWhereFew}
use Rattle.guarantees.specs.Blocks.{Accepted, checked_bits, blocks}
use Rattle.guarantees.proofs.Lines.Masks.{differ_where_checked}
use Rattle.guarantees.proofs.Blocks.Framing.{Found, accepted_right, one_framing}
use Rattle.guarantees.proofs.Blocks.Bridge.{all-passed, checked-length, block_bridge}
use Rattle.guarantees.proofs.Blocks.Columns.{EqualParities}
use Rattle.guarantees.proofs.Blocks.Parities.{sums-zero, low_seven, checked_of, length-checked_of, two_checked}
use Rattle.guarantees.proofs.Blocks.ChangedColumns.{sum_of, unchanged}
use Rattle.guarantees.proofs.Blocks.DiagonalBound.{columns_set, with_diagonal, nothing_changed, Bound, six, four, changed_bound}
use Rattle.guarantees.proofs.Taken.Questions.{taken_passed}
use Rattle.guarantees.proofs.Blocks.Changes.{changes, columns, sevens-changes, length-changes, changes_snoc, sum-changes, turned-changes, columns-differing}

-- ---- two byte strings with right parities, row checks and diagonal characters

no_length : (s : List ℕ) → length s ≡ 0 → s ≡ []
no_length [] e = refl
no_length (n ∷ s) e = absurd (omega arith)

-- the counted bytes with their row check, and the diagonal character
pub record Right (bytes : List ℕ) (last : ℕ) : Type 0 where
  pub sums : row_sums bytes ≡ zeros 7
  pub diagonal : low_bits 7 last ≡ turned (zeros 7) (columns bytes)

module _ (x y : List ℕ) (d e : ℕ) (size : length x ≡ length y) (rx : Right x d) (ry : Right y e)
    (pairs : EqualParities (x ++ d ∷ []) (y ++ e ∷ [])) (unequal : bits_of (x ++ d ∷ []) ≡ bits_of (y ++ e ∷ []) → ⊥) where
  abbrev different : List ℕ
  different = differing (bits_of (x ++ d ∷ [])) (bits_of (y ++ e ∷ []))

  whole_changes : changes (x ++ d ∷ []) (y ++ e ∷ []) ≡ with_diagonal (changes x y)
  whole_changes =
      changes_snoc x y d e size
      ∙ ap (λ z. changes x y ++ z ∷ []) (ap₂ xor_bits rx.diagonal ry.diagonal ∙ sym (turned-changes x y size))

  changed_columns : map column_of different ≡ columns_set 1 (with_diagonal (changes x y))
  changed_columns = columns-differing 0 pairs ∙ ap (columns_set 1) whole_changes

  some_changed : changes x y ≡ unchanged (length (changes x y)) → ⊥
  some_changed q =
      let n : length (map column_of different) ≡ 0 =
      ap length (changed_columns ∙ ap (λ vs. columns_set 1 (with_diagonal vs)) q) ∙ nothing_changed (length (changes x y)) in
      let l : length (x ++ d ∷ []) ≡ length (y ++ e ∷ []) = simp length-append (omega arith) in
      unequal (equal_of_differing (bits_of (x ++ d ∷ [])) (bits_of (y ++ e ∷ []))
      (length-bits_of (x ++ d ∷ []) ∙ ap (λ k. 8 * k) l ∙ sym (length-bits_of (y ++ e ∷ [])))
      (no_length different (sym (length-map different column_of) ∙ n)))

  pub right_bound : Bound (length x) (map column_of different)
  unfolding xor
  right_bound =
      let s : sum_of (changes x y) ≡ zeros 7 = sum-changes x y size ∙ ap₂ xor_bits rx.sums ry.sums in
      let b = changed_bound (sevens-changes x y) s some_changed in
      rw (changed_columns, ← (length-changes x y size)) b

-- ---- one line

abbrev RightBytes : List ℕ → Type 0
RightBytes bs = (bytes : List ℕ) × (last : ℕ) × (bs ≡ bytes ++ last ∷ []) × Right bytes last

-- the counted bytes c with the two check bytes r
right_bytes : (p : Parity) (c r : List ℕ) → length r ≡ 2 → bits_of r ≡ matrix_check p c ++ diagonal_check p c → RightBytes (c ++ r)
unfolding bits_of matrix_check diagonal_check
right_bytes p c [] l e = absurd (omega arith)
right_bytes p c (a ∷ []) l e = absurd (omega arith)
right_bytes p c (a ∷ b ∷ []) l e =
    let t = append_split (low_bits 8 a) (matrix_check p c) (bits_of (b ∷ [])) (diagonal_check p c) (length-low_bits 8 a ∙ sym (length_matrix p c)) e in
    let row : low_bits 7 a ≡ row_sums c = low_seven a (row_sums c) (xor (is_odd p) (parity (row_sums c))) (length-sums c) t.0 in
    let ds = diagonal_bits (length c) (columns_of c) in
    let diagonal : low_bits 7 b ≡ ds =
    low_seven b ds (xor (is_odd p) (parity ds)) (length-diagonal_bits (length c) (columns_of c)) (sym (bits_of_one b) ∙ t.1) in (
      c ++ a ∷ [],
      b,
      sym (append_assoc c (a ∷ []) (b ∷ [])),
      record {
        sums = sums-zero p c a t.0;
        diagonal =
            diagonal ∙ diagonal-turned c
            ∙ ap (turned (zeros 7)) (ap (λ z. columns c ++ z ∷ []) (sym row) ∙ sym (map-append (low_bits 7) c (a ∷ [])));
      },
    )
right_bytes p c (a ∷ b ∷ d ∷ r) l e = absurd (omega arith)

right_line : (table : CodeTable) (p : Parity) (line : List ℕ) (r : Found table method.Diagonal p line) → Accepted table method.Diagonal p line → RightBytes (checked_of r.marks line)
unfolding check_of
right_line table p line r acc =
    right_bytes p (counted r.marks line) (check_bytes r.marks line)
    (length-drop (length r.marks) line ∙ omega (arith, (all-passed table method.Diagonal p line r).closes, check_length_lem method.Diagonal))
    ((accepted_right table method.Diagonal p line r).0 acc)

-- ---- two lines

bound_of : (x y : List ℕ) → length x ≡ length y → EqualParities x y → (bits_of x ≡ bits_of y → ⊥) → RightBytes x → RightBytes y → (n : ℕ) → length x ≡ n + 2
    → Bound (n + 1) (map column_of (differing (bits_of x) (bits_of y)))
bound_of x y size pairs unequal (u, d, ex, rx) (v, e, ey, ry) n l =
    let lu : length u ≡ n + 1 = omega (arith, ap length ex, length-append u (d ∷ [])) in
    let lv : length v ≡ n + 1 = omega (arith, ap length ey, length-append v (e ∷ [])) in
    let b = right_bound u v d e (lu ∙ sym lv) rx ry (rw (ex, ey) at pairs) (λ q. unequal (ap bits_of ex ∙ q ∙ sym (ap bits_of ey))) in
    rw (ex, ey, ← lu) b

-- the columns of their differing bits
line_bound : (table : CodeTable) (p : Parity) (A B : List ℕ) → TwoAccepted (blocks table method.Diagonal p) A B → (n : ℕ)
    → length (checked_bits table method.Diagonal p A) ≡ 8 * (n + 2) → Bound (n + 1) (differing_columns (blocks table method.Diagonal p) A B)
line_bound table p A B t n l =
    let o = one_framing table method.Diagonal p A B t.same_framing in
    let w = two_checked table method.Diagonal refl p A B t o in
    rw (w.bits-x, w.bits-y)
    (bound_of (checked_of o.a.marks A) (checked_of o.b.marks B) w.size w.pairs w.unequal
    (right_line table p A o.a t.accepted.0)
    (right_line table p B o.b t.accepted.1)
    n (omega (arith, length-checked_of table method.Diagonal p A o.a)))

-- n counted bytes and two check bytes
line_length : (table : CodeTable) (p : Parity) (line : List ℕ) (r : Found table method.Diagonal p line)
    → length (checked_bits table method.Diagonal p line) ≡ 8 * (length (counted r.marks line) + 2)
line_length table p line r = omega (arith, checked-length table method.Diagonal p line r, check_length_lem method.Diagonal)

pub counted_diagonal : (table : CodeTable) (p : Parity) (line : List ℕ) (b : Parts) (room : ℕ) → read_block table method.Diagonal p line room ≡ taken b
    → Counted (blocks table method.Diagonal p) line b.counted
counted_diagonal table p line b room e =
    let k = taken_passed table method.Diagonal p line room e in
    omega (arith, line_length table p line k.framing, ap (λ (x : Parts). x.counted) k.parts)

distance-columns : (table : CodeTable) (p : Parity) (A B : List ℕ) → TwoAccepted (blocks table method.Diagonal p) A B
    → distance (blocks table method.Diagonal p) A B ≡ length (differing_columns (blocks table method.Diagonal p) A B)
distance-columns table p A B t =
    (differ_where_checked (blocks table method.Diagonal p) (block_bridge table method.Diagonal p) A B t.same_framing).1
    ∙ sym (length-map (differing_checked (blocks table method.Diagonal p) A B) column_of)

pub distance_diagonal : (table : CodeTable) (p : Parity) → AtLeast 4 (blocks table method.Diagonal p)
distance_diagonal table p A B t =
    let a = (one_framing table method.Diagonal p A B t.same_framing).a in
    go (line_bound table p A B t (length (counted a.marks A)) (line_length table p A a))
  where
    go : {n : ℕ} → Bound n (differing_columns (blocks table method.Diagonal p) A B) → 4 ≤ distance (blocks table method.Diagonal p) A B
    go (six h) = omega (arith, distance-columns table p A B t)
    go (four h) = omega (arith, distance-columns table p A B t, ap length h.two_each)

pub four_diagonal : (table : CodeTable) (p : Parity) → FourWhereApart 7 (blocks table method.Diagonal p)
four_diagonal table p A B t n l e = go (line_bound table p A B t n l)
  where
    go : Bound (n + 1) (differing_columns (blocks table method.Diagonal p) A B) → TwoColumnsApart 7 (n + 1) (differing_columns (blocks table method.Diagonal p) A B)
    go (six h) = absurd (omega (arith, distance-columns table p A B t))
    go (four h) = h

pub six_diagonal : (table : CodeTable) (p : Parity) → AtLeastWhereFew 6 7 (blocks table method.Diagonal p)
six_diagonal table p A B t n l few = go (line_bound table p A B t n l)
  where
    go : Bound (n + 1) (differing_columns (blocks table method.Diagonal p) A B) → 6 ≤ distance (blocks table method.Diagonal p) A B
    go (six h) = omega (arith, distance-columns table p A B t)
    go (four h) = absurd (omega (arith, h.within, h.apart))
