-- The sums of method 7 as code holds them, and the two characters that they stand for. Assumes nothing.
use Rattle.std.specs.Prelude.{ℕ, ◌+◌, ◌*◌, ◌/◌, ◌%◌, List, [], ◌∷◌}
use Rattle.std.specs.Int.Bits.{bit_xor}
use Rattle.block.specs.declared.Parity.{Parity}
use Rattle.block.specs.Characters.{with_parity}
use Rattle.block.specs.Check.{xor_all}

-- a byte added to the register of the diagonals, and its seven rows turned up by one: row 7 comes to row 1
abbrev pub turn_in : ℕ → ℕ → ℕ
turn_in register b = bit_xor register b % 64 * 2 + bit_xor register b / 64 % 2

unfoldable pub turn_all : ℕ → List ℕ → ℕ
turn_all register [] = register
turn_all register (b ∷ bs) = turn_all (turn_in register b) bs

-- bytes added to bytes, place by place
unfoldable pub xor_bytes : List ℕ → List ℕ → List ℕ
xor_bytes [] ys = []
xor_bytes (x ∷ xs) [] = []
xor_bytes (x ∷ xs) (y ∷ ys) = bit_xor x y ∷ xor_bytes xs ys

-- both in one number: the sums of the rows in its high byte, the register in its low byte
unfoldable pub sums_after : ℕ → List ℕ → ℕ
sums_after number bs = xor_all (number / 256) bs * 256 + turn_all (number % 256) bs

-- the row check, and the diagonal character behind it
abbrev pub characters : Parity → ℕ → List ℕ
characters p number = with_parity p (number / 256) ∷ with_parity p (turn_in (number % 256) (number / 256)) ∷ []
