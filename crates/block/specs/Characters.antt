-- Characters and their parity (document 01, part 1; 003 par. 1.1). Assumes nothing.
use Rattle.std.specs.Prelude.{ℕ, ◌+◌, ◌%◌, Bool, true, false, cond, not, ◌||◌}
use Rattle.std.specs.Bool.{beq, xor}
use Rattle.bits.specs.Strings.{parity}
use Rattle.bits.specs.Bytes.{low_bits}
use Rattle.block.specs.declared.Method.{Method}
use Rattle.block.specs.declared.Method.TheVariants as method
use Rattle.block.specs.declared.Parity.{Parity}
use Rattle.block.specs.declared.Parity.TheVariants.{Even, Odd}
use Rattle.block.specs.Signs.{CodeTable}

-- methods 1, 2 and 7 carry seven-bit characters, 3 and 4 eight-bit bytes
abbrev pub is_seven : Method → Bool
is_seven method.Parity = true
is_seven method.Matrix = true
is_seven method.Cyclic = false
is_seven method.CyclicAlternative = false
is_seven method.Diagonal = true

-- a code of eight bits has no characters of seven
abbrev pub carries : CodeTable → Method → Bool
carries t m = t.seven_bit || not (is_seven m)

-- the character of a byte on the line
unfoldable pub character : Bool → ℕ → ℕ
character seven b = cond seven (b % 128) b

-- whether the ones of a byte are to be odd in number: formulas (1) and (2)
abbrev pub is_odd : Parity → Bool
is_odd Even = false
is_odd Odd = true

unfoldable pub parity_right : Parity → ℕ → Bool
parity_right p b = beq (parity (low_bits 8 b)) (is_odd p)

-- a character with its parity bit on top
unfoldable pub with_parity : Parity → ℕ → ℕ
with_parity p b = b % 128 + cond (xor (is_odd p) (parity (low_bits 7 b))) 128 0

-- the byte by which a character is sent
unfoldable pub sent : Bool → Parity → ℕ → ℕ
sent seven p b = cond seven (with_parity p b) b
