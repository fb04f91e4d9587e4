-- The sums of all eight rows of bytes: the seven of the matrix and one more, and the remainder of their bits by x^8 + 1.
-- Assumes nothing.
use mathlib.Core.Path.{◌≡◌, refl, sym, ap, ap₂, ◌∙◌}
use Prim.Native.Nat.{ℕ, ◌+◌, ◌/◌, ◌%◌}
use native.Mathlib.Omega.{arith}
use mathlib.Core.Bool.{Bool, true, false, xor}
use mathlib.Core.List.{List, [], ◌∷◌, ◌++◌, append_assoc, append-nil}
use lib.Dec.{eqb}
use lib.ListN.{length, length-append}
use Rattle.bits.specs.Strings.{xor_bits, zeros}
use Rattle.bits.specs.Bytes.{low_bits, bits_of}
use Rattle.bits.proofs.Strings.{length-xor, xor_bits_comm, xor_bits_assoc, xor_bits-zeros, xor_bits-append}
use Rattle.bits.proofs.Bytes.{length-low_bits, low_bits-append}
use Rattle.division.specs.Division.{step, divide, remainder}
use Rattle.division.specs.Generators.{coefficients}
use Rattle.division.proofs.Linear.{divide-append, divide_linear}
use Rattle.division.proofs.Zeros.{remainder-full}
use Rattle.block.specs.Check.{row_sums}
use Rattle.block.proofs.CheckLaws.{length-sums}

-- of each of the eight bits, its sum modulo 2 over the bytes
abbrev pub all_sums : List ℕ → List Bool
all_sums [] = zeros 8
all_sums (b ∷ bs) = xor_bits (low_bits 8 b) (all_sums bs)

pub length-all : (x : List ℕ) → length (all_sums x) ≡ 8
length-all [] = refl
length-all (b ∷ x) = length-xor (low_bits 8 b) (all_sums x) (length-low_bits 8 b ∙ sym (length-all x)) ∙ length-all x

-- eight bits are seven and one more
abbrev pub OneMore : List Bool → List Bool → Type 0
OneMore seven eight = (t : Bool) × (eight ≡ seven ++ t ∷ [])

pub one_more_byte : (b : ℕ) → OneMore (low_bits 7 b) (low_bits 8 b)
unfolding low_bits
one_more_byte b = (eqb (b / 128 % 2) 1, low_bits-append 7 1 b)

pub one_more_sums : (x : List ℕ) → OneMore (row_sums x) (all_sums x)
unfolding row_sums
one_more_sums [] = (false, refl)
one_more_sums (b ∷ x) = go (one_more_byte b) (one_more_sums x)
  where
    go : OneMore (low_bits 7 b) (low_bits 8 b) → OneMore (row_sums x) (all_sums x) → OneMore (row_sums (b ∷ x)) (all_sums (b ∷ x))
    go (s, e) (t, f) =
        (xor s t, ap₂ xor_bits e f ∙ xor_bits-append (low_bits 7 b) (row_sums x) (s ∷ []) (t ∷ []) (length-low_bits 7 b ∙ sym (length-sums x)))

-- ---- they are the remainder by x^8 + 1

abbrev pub divisor : List Bool
divisor = coefficients 8 (0 ∷ [])

step_rotates : (h : Bool) (t : List Bool) → length t ≡ 7 → step divisor (h ∷ t) false ≡ t ++ h ∷ []
unfolding xor
step_rotates false t e = refl
step_rotates true t e = xor_bits-append (zeros 7) t (true ∷ []) (false ∷ []) (sym e) ∙ ap (λ z. z ++ true ∷ []) (xor_bits-zeros 7 t e)

divide_rotates : (u v : List Bool) → length u + length v ≡ 8 → divide divisor (u ++ v) (zeros (length u)) ≡ v ++ u
unfolding divide
divide_rotates [] v e = sym (append-nil v)
divide_rotates (h ∷ u) v e =
    ap (λ z. divide divisor z (zeros (length u))) (step_rotates h (u ++ v) (omega (arith, length-append u v)) ∙ append_assoc u v (h ∷ []))
    ∙ divide_rotates u (v ++ h ∷ []) (omega (arith, length-append v (h ∷ []))) ∙ append_assoc v (h ∷ []) u

-- a register of eight bits, after eight bits more, is their sum
pub divide-eight : (r c : List Bool) → length r ≡ 8 → length c ≡ 8 → divide divisor r c ≡ xor_bits r c
unfolding remainder
divide-eight r c h k =
    ap₂ (divide divisor) (sym (xor_bits_comm r (zeros 8) ∙ xor_bits-zeros 8 r h)) (sym (xor_bits-zeros 8 c k))
    ∙ divide_linear divisor r (zeros 8) (zeros 8) c h refl (sym k)
    ∙ ap₂ xor_bits
    (ap₂ (λ z n. divide divisor z (zeros n)) (sym (append-nil r)) (sym h) ∙ divide_rotates r [] (omega arith))
    (remainder-full divisor c k)

divide_bytes : (r : List Bool) (x : List ℕ) → length r ≡ 8 → divide divisor r (bits_of x) ≡ xor_bits r (all_sums x)
unfolding bits_of divide
divide_bytes r [] h = sym (xor_bits_comm r (zeros 8) ∙ xor_bits-zeros 8 r h)
divide_bytes r (b ∷ x) h =
    divide-append divisor r (low_bits 8 b) (bits_of x)
    ∙ ap (λ z. divide divisor z (bits_of x)) (divide-eight r (low_bits 8 b) h (length-low_bits 8 b))
    ∙ divide_bytes (xor_bits r (low_bits 8 b)) x (length-xor r (low_bits 8 b) (h ∙ sym (length-low_bits 8 b)) ∙ length-low_bits 8 b)
    ∙ xor_bits_assoc r (low_bits 8 b) (all_sums x)

pub remainder_bytes : (x : List ℕ) → remainder divisor (bits_of x) ≡ all_sums x
unfolding remainder
remainder_bytes x = divide_bytes (zeros 8) x refl ∙ xor_bits-zeros 8 (all_sums x) (length-all x)
