-- The changes between two byte strings of one length, column by column: their row sums, their register, and the columns of the bits in
-- which the strings differ. Assumes nothing.
use mathlib.Core.Path.{◌≡◌, refl, sym, ap, ap₂, ◌∙◌}
use Prim.Native.Nat.{ℕ, suc, ◌+◌, ◌*◌, ◌/◌, ◌≤◌}
use native.Mathlib.Omega.{arith}
use mathlib.Core.Bool.{Bool, true, false, xor}
use mathlib.Core.List.{List, [], ◌∷◌, ◌++◌, map, map-append}
use lib.ListN.{length, length-map, replicate}
use Rattle.bits.specs.Strings.{xor_bits, zeros, weight, parity}
use Rattle.bits.specs.Bytes.{low_bits, bits_of}
use Rattle.bits.specs.Differences.{set_from}
use Rattle.bits.proofs.Strings.{length-xor, xor_bits_four, xor_bits-append, weight-append}
use Rattle.bits.proofs.Bytes.{length-low_bits, bits_of-xor}
use Rattle.block.specs.Diagonals.{turned}
use Rattle.block.specs.Check.{row_sums}
use Rattle.block.proofs.DiagonalRegister.{Sevens, no_column, one_column, seven_bits, seven-xor, seven-zeros, sevens-bytes, xor_columns, turned-xor}
use Rattle.guarantees.specs.Columns.{column_of}
use Rattle.guarantees.proofs.Blocks.RowSums.{one_more_byte}
use Rattle.guarantees.proofs.Blocks.Columns.{EqualParities, no_byte, one_byte, byte_distance, even_byte}
use Rattle.guarantees.proofs.Blocks.ChangedColumns.{column_weight, sum_of}
use Rattle.guarantees.proofs.Blocks.DiagonalBound.{columns_set}

-- ---- the changes of columns: in which of the seven low bits two byte strings of one length differ

abbrev pub columns : List ℕ → List (List Bool)
columns = map (low_bits 7)

abbrev pub changes : List ℕ → List ℕ → List (List Bool)
changes x y = xor_columns (columns x) (columns y)

pub sevens-changes : (x y : List ℕ) → Sevens (changes x y)
sevens-changes [] y = no_column
sevens-changes (a ∷ x) [] = no_column
sevens-changes (a ∷ x) (b ∷ y) =
    one_column (seven-xor (seven_bits (low_bits 7 a) (length-low_bits 7 a)) (seven_bits (low_bits 7 b) (length-low_bits 7 b))) (sevens-changes x y)

pub length-changes : (x y : List ℕ) → length x ≡ length y → length (changes x y) ≡ length x
length-changes [] y l = refl
length-changes (a ∷ x) [] l = absurd (omega arith)
length-changes (a ∷ x) (b ∷ y) l = ap suc (length-changes x y (omega arith))

pub changes_snoc : (x y : List ℕ) (d e : ℕ) → length x ≡ length y
    → changes (x ++ d ∷ []) (y ++ e ∷ []) ≡ changes x y ++ xor_bits (low_bits 7 d) (low_bits 7 e) ∷ []
changes_snoc [] [] d e l = refl
changes_snoc [] (b ∷ y) d e l = absurd (omega arith)
changes_snoc (a ∷ x) [] d e l = absurd (omega arith)
changes_snoc (a ∷ x) (b ∷ y) d e l = ap (λ z. xor_bits (low_bits 7 a) (low_bits 7 b) ∷ z) (changes_snoc x y d e (omega arith))

pub sum-changes : (x y : List ℕ) → length x ≡ length y → sum_of (changes x y) ≡ xor_bits (row_sums x) (row_sums y)
unfolding row_sums xor
sum-changes [] [] l = refl
sum-changes [] (b ∷ y) l = absurd (omega arith)
sum-changes (a ∷ x) [] l = absurd (omega arith)
sum-changes (a ∷ x) (b ∷ y) l =
    ap (xor_bits (xor_bits (low_bits 7 a) (low_bits 7 b))) (sum-changes x y (omega arith))
    ∙ xor_bits_four (low_bits 7 a) (low_bits 7 b) (row_sums x) (row_sums y)

pub turned-changes : (x y : List ℕ) → length x ≡ length y → turned (zeros 7) (changes x y) ≡ xor_bits (turned (zeros 7) (columns x)) (turned (zeros 7) (columns y))
unfolding xor
turned-changes x y l =
    turned-xor (sevens-bytes x) (sevens-bytes y) (length-map x (low_bits 7) ∙ l ∙ sym (length-map y (low_bits 7))) (zeros 7) (zeros 7) seven-zeros seven-zeros

-- ---- the columns of differing bits

set_from-append : (n : ℕ) (a b : List Bool) → set_from n (a ++ b) ≡ set_from n a ++ set_from (n + length a) b
set_from-append n [] b = let e : n ≡ n + 0 = omega arith in ap (λ k. set_from k b) e
set_from-append n (true ∷ a) b =
    let e : suc n + length a ≡ n + suc (length a) = omega arith in
    ap (λ z. n ∷ z) (set_from-append (suc n) a b ∙ ap (λ k. set_from (suc n) a ++ set_from k b) e)
set_from-append n (false ∷ a) b =
    let e : suc n + length a ≡ n + suc (length a) = omega arith in
    set_from-append (suc n) a b ∙ ap (λ k. set_from (suc n) a ++ set_from k b) e

column_bits : (i n : ℕ) (u : List Bool) → 8 * i ≤ n → n + length u ≤ 8 * i + 8 → map column_of (set_from n u) ≡ replicate (weight u) (i + 1)
column_bits i n [] l h = refl
column_bits i n (true ∷ u) l h =
    let e : n / 8 + 1 ≡ i + 1 = omega arith in
    ap₂ (λ a b. a ∷ b) e (column_bits i (suc n) u (omega arith) (omega arith))
column_bits i n (false ∷ u) l h = column_bits i (suc n) u (omega arith) (omega arith)

one_bit_weight : (b : Bool) → weight (b ∷ []) ≤ 1
one_bit_weight true = omega arith
one_bit_weight false = omega arith

-- of bytes of one parity, by the seven low bits
weight-byte : (a b : ℕ) → parity (low_bits 8 a) ≡ parity (low_bits 8 b) → byte_distance a b ≡ column_weight (xor_bits (low_bits 7 a) (low_bits 7 b))
weight-byte a b e =
    let s = one_more_byte a in
    let t = one_more_byte b in
    let q =
    ap weight (ap₂ xor_bits s.1 t.1 ∙ xor_bits-append (low_bits 7 a) (low_bits 7 b) (s.0 ∷ []) (t.0 ∷ []) (length-low_bits 7 a ∙ sym (length-low_bits 7 b)))
    ∙ weight-append (xor_bits (low_bits 7 a) (low_bits 7 b)) (xor s.0 t.0 ∷ []) in
    omega (arith, q, even_byte a b e, one_bit_weight (xor s.0 t.0))

pub columns-differing : (i : ℕ) {x y : List ℕ} → EqualParities x y
    → map column_of (set_from (8 * i) (xor_bits (bits_of x) (bits_of y))) ≡ columns_set (i + 1) (changes x y)
unfolding bits_of
columns-differing i no_byte = refl
columns-differing i (one_byte {x} {y} a b e h) =
    let u = xor_bits (low_bits 8 a) (low_bits 8 b) in
    let v = xor_bits (bits_of x) (bits_of y) in
    let l : length u ≡ 8 = length-xor (low_bits 8 a) (low_bits 8 b) (length-low_bits 8 a ∙ sym (length-low_bits 8 b)) ∙ length-low_bits 8 b in
    let k : 8 * i + length u ≡ 8 * (i + 1) = omega arith in
    ap (λ z. map column_of (set_from (8 * i) z)) (bits_of-xor a b x y)
    ∙ ap (map column_of) (set_from-append (8 * i) u v)
    ∙ map-append column_of (set_from (8 * i) u) (set_from (8 * i + length u) v)
    ∙ ap₂ ◌++◌
    (column_bits i (8 * i) u (omega arith) (omega arith) ∙ ap (λ n. replicate n (i + 1)) (weight-byte a b e))
    (ap (λ n. map column_of (set_from n v)) k ∙ columns-differing (i + 1) h)
