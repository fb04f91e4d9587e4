-- How a byte enters, as code has it: what it leaves was tested at every byte. Assumes nothing.
use mathlib.Core.Path.{◌≡◌, ap, ◌∙◌}
use Prim.Native.Nat.{ℕ, ◌*◌, ◌/◌, ◌%◌, ◌^◌, ◌<◌}
use native.Mathlib.Nat.{mod-lt, mod-eq_of_lt, div-eq_of_lt}
use mathlib.Core.Bool.{xor}
use Rattle.std.proofs.lemmas.Nat.{and_mask}
use lib.Bits.{bit_and, bit_xor, xor_lt, xor_zero_r}
use lib.Dec.{T, lit<}
use Rattle.bits.specs.Bytes.{low_bits, value}
use Rattle.bits.proofs.Bytes.{low_bits-mod}
use Rattle.bits.proofs.Tests.{every}
use Rattle.division.specs.Division.{divide}
use Rattle.registers.specs.Register.{enter}
use Rattle.quotient.proofs.Quotients.{at_each_byte, byte_enters}
use Rattle.fixed_polynomials.specs.Polynomials.{fixed8, fixed16, fixed24, degree8, degree16, degree24}
use Rattle.fixed_polynomials.proofs.Polynomials.{widths}

-- a register of w bits moved up, as code has it
abbrev shl : ℕ → ℕ → ℕ → ℕ
shl w k x = (x * 2 ^ k) % 2 ^ w

-- ---- degree 8

abbrev pub fixed8_byte : ℕ → ℕ
fixed8_byte k =
    let q = bit_xor k (bit_xor (shl 8 6 k) (shl 8 7 k)) in
    bit_xor q (bit_xor (q / 2 ^ 1) (q / 2 ^ 2))

fixed8_byte_lem : T (at_each_byte 8 fixed8 fixed8_byte)
unfolding at_each_byte every value divide low_bits fixed8 xor
fixed8_byte_lem = tt

pub enters_8 : (register byte : ℕ) → register < 2 ^ 8 → byte < 2 ^ 8 → low_bits 8 (fixed8_byte (bit_xor register byte)) ≡ enter fixed8 (low_bits 8 register) (low_bits 8 byte)
unfolding degree8
enters_8 register byte fits small =
    let k = bit_xor register byte in
    let whole : bit_and k 255 ≡ k = and_mask k 8 ∙ mod-eq_of_lt (xor_lt 8 register byte fits small) in
    let none : register / 256 ≡ 0 = div-eq_of_lt fits in
    rw (whole, none, xor_zero_r) at (byte_enters 0 fixed8 fixed8_byte widths.degree_8.generator.width fixed8_byte_lem register byte fits)

-- ---- degree 16

abbrev pub fixed16_byte : ℕ → ℕ
fixed16_byte k =
    let q = bit_and (bit_xor (bit_xor k (shl 16 1 k)) (bit_xor (shl 16 2 k) (bit_xor (shl 16 4 k) (shl 16 5 k)))) 255 in
    bit_xor (bit_xor (bit_xor (shl 16 8 q) (shl 16 7 q)) (bit_xor (shl 16 5 q) (shl 16 3 q)))
    (bit_xor (q / 2 ^ 3) (bit_xor (q / 2 ^ 5) (q / 2 ^ 7)))

fixed16_byte_lem : T (at_each_byte 16 fixed16 fixed16_byte)
unfolding at_each_byte every value divide low_bits fixed16 xor
fixed16_byte_lem = tt

pub enters_16 : (register byte : ℕ) → register < 2 ^ 16
    → low_bits 16 (bit_xor (fixed16_byte (bit_and (bit_xor register byte) 255)) (register / 256)) ≡ enter fixed16 (low_bits 16 register) (low_bits 8 byte)
unfolding degree16
enters_16 = byte_enters 8 fixed16 fixed16_byte widths.degree_16.generator.width fixed16_byte_lem

-- ---- degree 24

abbrev pub fixed24_byte : ℕ → ℕ
fixed24_byte k =
    let q = bit_and (bit_xor (bit_xor k (shl 32 2 k)) (bit_xor (shl 32 4 k) (shl 32 6 k))) 255 in
    bit_xor (bit_xor (shl 32 16 q) (bit_xor (shl 32 15 q) (shl 32 14 q)))
    (bit_xor (bit_xor (shl 32 7 q) (shl 32 6 q)) (bit_xor (shl 32 4 q) (q / 2 ^ 6)))

fixed24_byte_lem : T (at_each_byte 24 fixed24 fixed24_byte)
unfolding at_each_byte every value divide low_bits fixed24 xor
fixed24_byte_lem = tt

-- the bits above the 24 are not seen
pub enters_24 : (number byte : ℕ) → let register = bit_and number 16777215 in
    low_bits 24 (bit_xor (fixed24_byte (bit_and (bit_xor register byte) 255)) (register / 256)) ≡ enter fixed24 (low_bits 24 number) (low_bits 8 byte)
unfolding degree24
enters_24 number byte =
    rw (and_mask number 24)
    (byte_enters 16 fixed24 fixed24_byte widths.degree_24.generator.width fixed24_byte_lem (number % 2 ^ 24) byte (mod-lt number (lit< tt))
    ∙ ap (λ r. enter fixed24 r (low_bits 8 byte)) (low_bits-mod 24 number))
