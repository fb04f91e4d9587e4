-- The diagonals of method 7 (000, appendix; document 02, card 5). A column is the seven low bits of a byte, from row 1, the low bit, to
-- row 7. Columns 1 to n are the counted bytes, column n + 1 is the row check. Assumes nothing.
use Rattle.std.specs.Prelude.{ℕ, ◌+◌, ◌%◌, Bool, false, ◌&&◌, cond, List, [], ◌∷◌, ◌++◌, map, eqb, take, drop}
use Rattle.std.specs.Bool.{xor}
use Rattle.bits.specs.Strings.{xor_bits}

-- whether a bit lies on diagonal s: its row less its column plus 1 equals s modulo 7
abbrev pub lies_on : ℕ → ℕ → ℕ → Bool
lies_on s row column = eqb ((row + 1) % 7) ((s + column) % 7)

-- the sum modulo 2 of those bits: in one column, from the row `row` on
abbrev pub sum_of_column : ℕ → ℕ → ℕ → List Bool → Bool
sum_of_column s column row [] = false
sum_of_column s column row (b ∷ bits) = xor (lies_on s row column && b) (sum_of_column s column (row + 1) bits)

-- and in all columns, from the column `column` on
abbrev pub sum_of_columns : ℕ → ℕ → List (List Bool) → Bool
sum_of_columns s column [] = false
sum_of_columns s column (c ∷ cs) = xor (sum_of_column s column 1 c) (sum_of_columns s (column + 1) cs)

abbrev pub one_to_seven : List ℕ
one_to_seven = 1 ∷ 2 ∷ 3 ∷ 4 ∷ 5 ∷ 6 ∷ 7 ∷ []

-- diagonals 1 to 7, from the column `column` on
abbrev pub diagonals_from : ℕ → List (List Bool) → List Bool
diagonals_from column cs = map (λ s. sum_of_columns s column cs) one_to_seven

-- behind n counted bytes diagonal s stands in row ((s + n) modulo 7) + 1: the bit of a row, among the diagonals from s on
abbrev pub in_row : ℕ → ℕ → ℕ → List Bool → Bool
in_row n row s [] = false
in_row n row s (d ∷ ds) = cond (eqb ((s + n) % 7 + 1) row) d (in_row n row (s + 1) ds)

abbrev pub in_rows : ℕ → List Bool → List Bool
in_rows n ds = map (λ row. in_row n row 1 ds) one_to_seven

-- rows 1 to 7 of the diagonal character behind n counted bytes
unfoldable pub diagonal_bits : ℕ → List (List Bool) → List Bool
diagonal_bits n cs = in_rows n (diagonals_from 1 cs)

-- ---- the same by a register of seven bits (`diagonal_register`)

-- turned up by one row: row 7 comes to row 1
abbrev pub turn : List Bool → List Bool
turn bits = drop 6 bits ++ take 6 bits

-- turned after each column that is added
unfoldable pub turned : List Bool → List (List Bool) → List Bool
turned register [] = register
turned register (c ∷ cs) = turned (turn (xor_bits register c)) cs
