-- What is proved of registers: each statement once, under the name that its proof carries. Assumes nothing.
use Rattle.std.specs.Prelude.{◌≡◌, ℕ, ◌+◌, ◌^◌, ◌<◌, ◌≤◌, Bool, List, ◌++◌, length}
use Rattle.bits.specs.Strings.{xor_bits, zeros}
use Rattle.bits.specs.Bytes.{low_bits, bits_of}
use Rattle.division.specs.Division.{remainder}
use Rattle.registers.specs.Register.{enter, table_of, enter_bits_by_table, enter_all_by_table, enter_string_by_table}

-- bits that enter at the high end of a register of w bits leave the remainder of x^w · C + x^k · register
abbrev pub EnterIsFormula : Type 0
EnterIsFormula =
    (w : ℕ) (p r c : List Bool) → 0 < w → length p ≡ w → length r ≡ w → enter p r c ≡ remainder p (xor_bits (c ++ zeros w) (r ++ zeros (length c)))

-- bytes that enter through the table of a generator, at any width from a byte on, enter bit by bit
abbrev pub TableEnters : Type 0
TableEnters =
    (j : ℕ) (p : List Bool) → length p ≡ 8 + j → (register : ℕ) (bytes : List ℕ) → register < 2 ^ (8 + j)
    → low_bits (8 + j) (enter_all_by_table (table_of (8 + j) p) register bytes) ≡ enter p (low_bits (8 + j) register) (bits_of bytes)

-- and so do the lowest bits of a byte alone (document 02, card 13)
abbrev pub TableEntersBits : Type 0
TableEntersBits =
    (j : ℕ) (p : List Bool) → length p ≡ 8 + j → (register byte k : ℕ) → register < 2 ^ (8 + j) → k ≤ 8
    → low_bits (8 + j) (enter_bits_by_table (table_of (8 + j) p) register byte k) ≡ enter p (low_bits (8 + j) register) (low_bits k byte)

-- and any bits
abbrev pub TableEntersString : Type 0
TableEntersString =
    (j : ℕ) (p : List Bool) → length p ≡ 8 + j → (register : ℕ) (s : List Bool) → register < 2 ^ (8 + j)
    → low_bits (8 + j) (enter_string_by_table (table_of (8 + j) p) register s) ≡ enter p (low_bits (8 + j) register) s
