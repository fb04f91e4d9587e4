-- `Ccitt16::enter_bits` meets its contract: the bits go through as the last of a byte. Assumes nothing.
use mathlib.Core.Path.{◌≡◌, ap, ◌∙◌}
use Prim.Native.Nat.{◌*◌, ◌/◌, ◌%◌, ◌^◌, ◌-◌}
use native.Mathlib.Omega.{arith}
use lib.Bits.{bit_and, bit_xor}
use Rattle.bits.specs.Bytes.{low_bits}
use Rattle.division.specs.Generators.{ccitt16}
use Rattle.division.proofs.Generators.{ccitt16_generator}
use Rattle.registers.specs.Register.{enter}
use Rattle.registers.proofs.Bits.{last_in_byte, few_bits, bits_through}
use Rattle.ccitt16.proofs.Ccitt16.enter_bits.Goals as goal

pub returns : goal.returns
returns c few =
    let a = c.args in
    let x = bit_xor a.register a.byte in
    let k = few_bits a.k few in
    let last : bit_and (x * 256 % 65536 / 2 ^ bit_and a.k 15) 255 ≡ x % 2 ^ a.k * 2 ^ (8 - a.k) =
    ap (λ k. bit_and (x * 256 % 65536 / 2 ^ k) 255) k ∙ last_in_byte 8 x a.k (omega arith) few in
    let alone = c.enter_byte.result in
    ap (λ k. low_bits 16 (bit_xor alone (a.register / 2 ^ k))) k
    ∙ bits_through 8 ccitt16 ccitt16_generator.width a.register a.byte a.k (omega arith) few alone
    (c.enter_byte.ensures ∙ ap (λ n. enter ccitt16 (low_bits 16 n) (low_bits 8 0)) last)
