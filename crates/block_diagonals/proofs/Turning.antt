-- Laws of the register as a number, and of both sums in one. Assumes nothing.
use mathlib.Core.Path.{◌≡◌, refl, sym, ap, ap₂, ◌∙◌}
use Prim.Native.Nat.{ℕ, ◌+◌, ◌*◌, ◌/◌, ◌%◌, ◌<◌}
use native.Mathlib.Omega.{arith}
use mathlib.Core.List.{List, [], ◌∷◌, ◌++◌, map}
use lib.Bits.{bit_xor}
use lib.Dec.{eqb}
use Rattle.bits.specs.Bytes.{low_bits}
use Rattle.bits.proofs.Bytes.{low_bits-append, low_bits-mod, low_bits-xor}
use Rattle.block.specs.Check.{xor_all}
use Rattle.block.specs.Diagonals.{turn, turned}
use Rattle.block.proofs.Sums.{xor_all-append}
use Rattle.block_diagonals.specs.Sums.{turn_in, turn_all, sums_after}

-- ---- the register

pub turn_all-nil : (register : ℕ) → turn_all register [] ≡ register
unfolding turn_all
turn_all-nil register = refl

pub turn_all-cons : (register b : ℕ) (bs : List ℕ) → turn_all register (b ∷ bs) ≡ turn_all (turn_in register b) bs
unfolding turn_all
turn_all-cons register b bs = refl

pub turn_all-append : (register : ℕ) (xs ys : List ℕ) → turn_all register (xs ++ ys) ≡ turn_all (turn_all register xs) ys
unfolding turn_all
turn_all-append register [] ys = refl
turn_all-append register (x ∷ xs) ys = turn_all-append (turn_in register x) xs ys

pub turn_all_lt : (register : ℕ) (bs : List ℕ) → register < 256 → turn_all register bs < 256
unfolding turn_all
turn_all_lt register [] h = h
turn_all_lt register (b ∷ bs) h = turn_all_lt (turn_in register b) bs (omega arith)

-- its seven rows
bits-turn : (x : ℕ) → low_bits 7 (x % 64 * 2 + x / 64 % 2) ≡ turn (low_bits 7 x)
unfolding low_bits
bits-turn x =
    let n = x % 64 * 2 + x / 64 % 2 in
    let h : n / 2 ≡ x % 64 = omega arith in
    let t : n % 2 ≡ x / 64 % 2 = omega arith in
    ap₂ (λ i j. eqb i 1 ∷ low_bits 6 j) t h ∙ ap (λ z. eqb (x / 64 % 2) 1 ∷ z) (low_bits-mod 6 x) ∙ sym (ap turn (low_bits-append 6 1 x))

pub bits-turn_all : (register : ℕ) (bs : List ℕ) → low_bits 7 (turn_all register bs) ≡ turned (low_bits 7 register) (map (low_bits 7) bs)
unfolding turn_all turned
bits-turn_all register [] = refl
bits-turn_all register (b ∷ bs) =
    bits-turn_all (turn_in register b) bs
    ∙ ap (λ r. turned r (map (low_bits 7) bs)) (bits-turn (bit_xor register b) ∙ ap turn (low_bits-xor 7 register b))

-- ---- both sums

pub high_byte : (sums register : ℕ) → register < 256 → (sums * 256 + register) / 256 ≡ sums
high_byte sums register h = omega arith

pub low_byte : (sums register : ℕ) → register < 256 → (sums * 256 + register) % 256 ≡ register
low_byte sums register h = omega arith

pub sums_after-append : (number : ℕ) (xs ys : List ℕ) → sums_after number (xs ++ ys) ≡ sums_after (sums_after number xs) ys
unfolding sums_after
sums_after-append number xs ys =
    let s = xor_all (number / 256) xs in
    let r = turn_all (number % 256) xs in
    let small : r < 256 = turn_all_lt (number % 256) xs (omega arith) in
    ap₂ (λ i j. i * 256 + j) (xor_all-append (number / 256) xs ys) (turn_all-append (number % 256) xs ys)
    ∙ sym (ap₂ (λ i j. xor_all i ys * 256 + turn_all j ys) (high_byte s r small) (low_byte s r small))
