-- `enter_bits` meets its contract: moved up, the bits are the last of a byte. Assumes nothing.
use mathlib.Core.Path.{ap, ◌∙◌}
use Prim.Native.Nat.{◌*◌, ◌/◌, ◌%◌, ◌^◌}
use native.Mathlib.Omega.{arith}
use lib.Bits.{bit_and, bit_xor}
use lib.ListN.{get_or}
use Rattle.registers.specs.Register.{enter_bits_by_table}
use Rattle.registers.proofs.Bits.{last_in_byte, few_bits}
use Rattle.registers.proofs.enter_bits.Goals as goal

pub returns : goal.returns
unfolding enter_bits_by_table
returns c few =
    let a = c.args in
    let x = bit_xor a.register a.byte in
    ap (λ k. bit_xor (get_or a.table.now (bit_and (x * 256 % 4294967296 / 2 ^ k) 255) 0) (a.register / 2 ^ k)) (few_bits a.k few)
    ∙ ap (λ at. bit_xor (get_or a.table.now at 0) (a.register / 2 ^ a.k)) (last_in_byte 24 x a.k (omega arith) few)
