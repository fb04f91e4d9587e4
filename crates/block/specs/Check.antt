-- The checks of methods 1 to 4 and 7 over the counted bytes: the bits that follow the end sign, in the order sent. Assumes nothing.
use Rattle.std.specs.Prelude.{ℕ, Bool, List, [], ◌∷◌, ◌++◌, map, length}
use Rattle.std.specs.Bool.{xor}
use Rattle.std.specs.Int.Bits.{bit_xor}
use Rattle.bits.specs.Strings.{xor_bits, zeros, parity}
use Rattle.bits.specs.Bytes.{low_bits, bits_of, pack}
use Rattle.cyclic.specs.Check.{check_bits, method3, method4}
use Rattle.block.specs.declared.Method.{Method}
use Rattle.block.specs.declared.Method.TheVariants as method
use Rattle.block.specs.declared.Parity.{Parity}
use Rattle.block.specs.declared.Parity.TheVariants.{Even}
use Rattle.block.specs.Characters.{is_odd}
use Rattle.block.specs.Diagonals.{diagonal_bits}

-- of each of the seven rows, which are the low bits of the bytes, its sum modulo 2: formula (3), 000 par. 5
unfoldable pub row_sums : List ℕ → List Bool
row_sums [] = zeros 7
row_sums (b ∷ bs) = xor_bits (low_bits 7 b) (row_sums bs)

-- seven bits, and the parity bit as the link sets it (003 par. 1.2.2)
abbrev pub with_parity_bit : Parity → List Bool → List Bool
with_parity_bit p bits = bits ++ xor (is_odd p) (parity bits) ∷ []

-- the check character of the matrix: those sums
unfoldable pub matrix_check : Parity → List ℕ → List Bool
matrix_check p bs = with_parity_bit p (row_sums bs)

-- the columns of the diagonals: the counted bytes, then the row check
abbrev pub columns_of : List ℕ → List (List Bool)
columns_of bs = map (low_bits 7) bs ++ row_sums bs ∷ []

-- the diagonal character (000, appendix)
unfoldable pub diagonal_check : Parity → List ℕ → List Bool
diagonal_check p bs = with_parity_bit p (diagonal_bits (length bs) (columns_of bs))

unfoldable pub check_of : Method → Parity → List ℕ → List Bool
check_of method.Parity p bs = []
check_of method.Matrix p bs = matrix_check p bs
check_of method.Cyclic p bs = check_bits method3 (bits_of bs)
check_of method.CyclicAlternative p bs = check_bits method4 (bits_of bs)
check_of method.Diagonal p bs = matrix_check p bs ++ diagonal_check p bs

-- bytes summed bit by bit, as code holds the sums
unfoldable pub xor_all : ℕ → List ℕ → ℕ
xor_all sum [] = sum
xor_all sum (b ∷ bs) = xor_all (bit_xor sum b) bs

-- the bytes of a method's check: every one has as many as that of no bytes
unfoldable pub check_length : Method → ℕ
check_length m = length (pack (check_of m Even []))
