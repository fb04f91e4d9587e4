-- The checks over bytes: registers of the cyclic methods, the check characters of matrix and diagonals, and how long a check is.
-- Assumes nothing.
use mathlib.Core.Path.{◌≡◌, refl, sym, ap, ap₂, ◌∙◌}
use Prim.Native.Nat.{ℕ, ◌+◌, ◌/◌, ◌%◌, ◌^◌, ◌≤◌, ◌<◌}
use native.Mathlib.Omega.{arith}
use mathlib.Core.Bool.{Bool, true, false, xor, cond}
use mathlib.Core.List.{List, [], ◌∷◌, ◌++◌, map}
use lib.Bits.{bit_xor}
use lib.Dec.{lit<}
use lib.ListN.{length, length-append, length-map}
use Rattle.bits.specs.Strings.{xor_bits, zeros, parity}
use Rattle.bits.specs.Bytes.{low_bits, bits_of, bytes_for, value, pack}
use Rattle.bits.proofs.Bytes.{length-low_bits, low_bits-append, low_bits-mod, low_bits-xor, low_bits-zero, low_bits-value}
use Rattle.bits.proofs.Strings.{xor_bits_comm, xor_bits_assoc, xor_bits-zeros, length-xor}
use Rattle.bits.proofs.Packing.{length-pack}
use Rattle.cyclic.specs.Check.{Parameters, invert_if, check_bits, method3, method4}
use Rattle.cyclic.specs.Laws.{OfWidth}
use Rattle.generator16.specs.Register.{register_after}
use Rattle.registers.proofs.Table.{entered_by}
use Rattle.cyclic.proofs.Checks.{length-check}
use Rattle.cyclic.proofs.Methods.{check_of_lem, width_3, width_4}
use Rattle.block.specs.declared.Method.{Method}
use Rattle.block.specs.declared.Method.TheVariants as method
use Rattle.block.specs.declared.Parity.{Parity}
use Rattle.block.specs.declared.Parity.TheVariants.{Even}
use Rattle.block.specs.Characters.{is_odd, with_parity}
use Rattle.block.specs.Diagonals.{diagonal_bits, turned}
use Rattle.block.specs.Check.{row_sums, with_parity_bit, matrix_check, columns_of, diagonal_check, check_of, xor_all, check_length}
use Rattle.block.proofs.DiagonalRegister.{Sevens, no_column, one_column, seven_bits, diagonal_register, length-diagonal_bits}

-- ---- registers of the cyclic methods

-- a register that began at a method's start, and the number made of it, hold the check of the bytes that entered
pub register_check : (m : Parameters) → OfWidth 16 m → (bs : List ℕ) (check : ℕ) {start register : ℕ}
    → low_bits 16 start ≡ m.start → start < 2 ^ 16 → register ≡ register_after m.generator start bs
    → low_bits 16 check ≡ invert_if m.inverted (low_bits 16 register) → low_bits 16 check ≡ check_bits m (bits_of bs)
register_check m o bs check {start} {register} began fits r k =
    check_of_lem 16 m o (lit< tt) (bits_of bs) start register check began (entered_by 8 m.generator o.generator.width start bs refl r fits) k

-- ---- the matrix's check character

pub sums-xor : (sum : ℕ) (bs : List ℕ) → low_bits 7 (xor_all sum bs) ≡ xor_bits (low_bits 7 sum) (row_sums bs)
unfolding xor_all row_sums
sums-xor sum [] = sym (xor_bits_comm (low_bits 7 sum) (zeros 7) ∙ xor_bits-zeros 7 (low_bits 7 sum) (length-low_bits 7 sum))
sums-xor sum (b ∷ bs) =
    sums-xor (bit_xor sum b) bs ∙ ap (λ z. xor_bits z (row_sums bs)) (low_bits-xor 7 sum b) ∙ xor_bits_assoc (low_bits 7 sum) (low_bits 7 b) (row_sums bs)

pub length-sums : (bs : List ℕ) → length (row_sums bs) ≡ 7
unfolding row_sums
length-sums [] = refl
length-sums (b ∷ bs) = length-xor (low_bits 7 b) (row_sums bs) (length-low_bits 7 b ∙ sym (length-sums bs)) ∙ length-sums bs

pub sums_are : (bs : List ℕ) → row_sums bs ≡ low_bits 7 (xor_all 0 bs)
sums_are bs = sym (sums-xor 0 bs ∙ ap (λ z. xor_bits z (row_sums bs)) (low_bits-zero 7) ∙ xor_bits-zeros 7 (row_sums bs) (length-sums bs))

-- a character with its parity bit: its seven bits, and the bit
pub with_parity-mod : (p : Parity) (x : ℕ) → with_parity p x % 128 ≡ x % 128
unfolding with_parity
with_parity-mod p x = go (xor (is_odd p) (parity (low_bits 7 x)))
  where
    go : (d : Bool) → (x % 128 + cond d 128 0) % 128 ≡ x % 128
    go true = omega arith
    go false = omega arith

pub with_parity-low : (p : Parity) (x : ℕ) → low_bits 7 (with_parity p x) ≡ low_bits 7 x
with_parity-low p x = sym (low_bits-mod 7 (with_parity p x)) ∙ ap (low_bits 7) (with_parity-mod p x) ∙ low_bits-mod 7 x

pub with_parity-bits : (p : Parity) (x : ℕ) → low_bits 8 (with_parity p x) ≡ low_bits 7 x ++ xor (is_odd p) (parity (low_bits 7 x)) ∷ []
unfolding with_parity low_bits
with_parity-bits p x = low_bits-append 7 1 (with_parity p x) ∙ ap₂ ◌++◌ (with_parity-low p x) (go (xor (is_odd p) (parity (low_bits 7 x))))
  where
    go : (d : Bool) → low_bits 1 ((x % 128 + cond d 128 0) / 128) ≡ d ∷ []
    go true = let e : (x % 128 + 128) / 128 ≡ 1 = omega arith in ap (low_bits 1) e
    go false = let e : (x % 128 + 0) / 128 ≡ 0 = omega arith in ap (low_bits 1) e

pub with_parity_lt : (p : Parity) (x : ℕ) → with_parity p x < 256
unfolding with_parity
with_parity_lt p x = go (xor (is_odd p) (parity (low_bits 7 x)))
  where
    go : (d : Bool) → x % 128 + cond d 128 0 < 256
    go true = omega arith
    go false = omega arith

pub matrix_character : (p : Parity) (bs : List ℕ) → matrix_check p bs ≡ low_bits 8 (with_parity p (xor_all 0 bs))
unfolding matrix_check
matrix_character p bs =
    ap (λ s. s ++ xor (is_odd p) (parity s) ∷ []) (sums_are bs) ∙ sym (with_parity-bits p (xor_all 0 bs))

-- seven bits with their parity bit, as a byte
pub parity_bit-character : (p : Parity) (bits : List Bool) → length bits ≡ 7 → with_parity_bit p bits ≡ low_bits 8 (with_parity p (value bits))
parity_bit-character p bits l =
    ap (with_parity_bit p) (sym (ap (λ n. low_bits n (value bits)) (sym l) ∙ low_bits-value bits)) ∙ sym (with_parity-bits p (value bits))

-- ---- the diagonal character

columns_seven : (bs : List ℕ) {cs : List (List Bool)} → Sevens cs → Sevens (map (low_bits 7) bs ++ cs)
columns_seven [] h = h
columns_seven (b ∷ bs) h = one_column (seven_bits (low_bits 7 b) (length-low_bits 7 b)) (columns_seven bs h)

-- of the counted bytes, by the register
pub diagonal-turned : (bs : List ℕ) → diagonal_bits (length bs) (columns_of bs) ≡ turned (zeros 7) (columns_of bs)
diagonal-turned bs =
    diagonal_register (length bs) (columns_seven bs (one_column (seven_bits (row_sums bs) (length-sums bs)) no_column))
    (length-append (map (low_bits 7) bs) (row_sums bs ∷ []) ∙ ap (λ n. n + 1) (length-map bs (low_bits 7)))

-- ---- lengths

length-parity_bit : (p : Parity) (bits : List Bool) → length bits ≡ 7 → length (with_parity_bit p bits) ≡ 8
length-parity_bit p bits l = length-append bits (xor (is_odd p) (parity bits) ∷ []) ∙ ap (λ n. n + 1) l

pub length_matrix : (p : Parity) (bs : List ℕ) → length (matrix_check p bs) ≡ 8
unfolding matrix_check
length_matrix p bs = length-parity_bit p (row_sums bs) (length-sums bs)

length_diagonal : (p : Parity) (bs : List ℕ) → length (diagonal_check p bs) ≡ 8
unfolding diagonal_check
length_diagonal p bs = length-parity_bit p (diagonal_bits (length bs) (columns_of bs)) (length-diagonal_bits (length bs) (columns_of bs))

pub length_characters : (p : Parity) (bs : List ℕ) → length (matrix_check p bs ++ diagonal_check p bs) ≡ 16
length_characters p bs = length-append (matrix_check p bs) (diagonal_check p bs) ∙ ap₂ ◌+◌ (length_matrix p bs) (length_diagonal p bs)

length_cyclic : (m : Parameters) → OfWidth 16 m → (c : _) → length (check_bits m c) ≡ 16
length_cyclic m o c = length-check m (o.start-length ∙ sym o.generator.width) c ∙ o.generator.width

packed : (s : List Bool) (n : ℕ) → length s ≡ n → length (pack s) ≡ bytes_for n
packed s n h = length-pack s ∙ ap bytes_for h

pub length_cyclic_check : (m : Parameters) → OfWidth 16 m → (bs : List ℕ) → length (pack (check_bits m (bits_of bs))) ≡ 2
length_cyclic_check m o bs = packed (check_bits m (bits_of bs)) 16 (length_cyclic m o (bits_of bs))

abbrev pub check_bytes : Method → ℕ
check_bytes method.Parity = 0
check_bytes method.Matrix = 1
check_bytes method.Cyclic = 2
check_bytes method.CyclicAlternative = 2
check_bytes method.Diagonal = 2

length_packed : (m : Method) (p : Parity) (bs : List ℕ) → length (pack (check_of m p bs)) ≡ check_bytes m
unfolding check_of
length_packed method.Parity p bs = packed [] 0 refl
length_packed method.Matrix p bs = packed (matrix_check p bs) 8 (length_matrix p bs)
length_packed method.Cyclic p bs = length_cyclic_check method3 width_3 bs
length_packed method.CyclicAlternative p bs = length_cyclic_check method4 width_4 bs
length_packed method.Diagonal p bs = packed (matrix_check p bs ++ diagonal_check p bs) 16 (length_characters p bs)

pub check_length_lem : (m : Method) → check_length m ≡ check_bytes m
unfolding check_length
check_length_lem m = length_packed m Even []

pub length-check_of : (m : Method) (p : Parity) (bs : List ℕ) → length (pack (check_of m p bs)) ≡ check_length m
length-check_of m p bs = length_packed m p bs ∙ sym (check_length_lem m)

pub check_short : (m : Method) → check_length m ≤ 2
check_short m = go m (check_length_lem m)
  where
    go : (m : Method) {n : ℕ} → n ≡ check_bytes m → n ≤ 2
    go method.Parity e = omega arith
    go method.Matrix e = omega arith
    go method.Cyclic e = omega arith
    go method.CyclicAlternative e = omega arith
    go method.Diagonal e = omega arith
