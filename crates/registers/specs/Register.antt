-- The register of a check as code holds it: bits enter at its high end, a byte at a time through a table. Assumes nothing.
use Rattle.std.specs.Prelude.{ℕ, zero, suc, ◌-◌, ◌*◌, ◌/◌, ◌%◌, ◌^◌, Bool, false, List, [], ◌∷◌, length, drop, get_or}
use Rattle.std.specs.Bool.{xor}
use Rattle.std.specs.Int.Bits.{bit_xor}
use Rattle.bits.specs.Strings.{zeros}
use Rattle.bits.specs.Bytes.{low_bits, value, pack_into}
use Rattle.division.specs.Division.{step, divide}

-- one bit: it is added to the bit that leaves the register, which then decides whether the generator is subtracted
abbrev pub enter_bit : List Bool → List Bool → Bool → List Bool
enter_bit p [] b = []
enter_bit p (t ∷ r) b = step p (xor t b ∷ r) false

-- the register after all the bits
unfoldable pub enter : List Bool → List Bool → List Bool → List Bool
enter p r [] = r
enter p r (b ∷ bits) = enter p (enter_bit p r b) bits

-- the register that began empty, after the bits
abbrev pub entered : List Bool → List Bool → List Bool
entered p m = enter p (zeros (length p)) m

-- f at the n numbers from i on
abbrev pub tabulate : (ℕ → ℕ) → ℕ → ℕ → List ℕ
tabulate f i zero = []
tabulate f i (suc n) = f i ∷ tabulate f (suc i) n

-- the table of a generator of width w: at k what a register that holds k becomes when eight zeros enter it
abbrev pub entry : ℕ → List Bool → ℕ → ℕ
entry w p k = value (divide p (low_bits w k) (zeros 8))

unfoldable pub table_of : ℕ → List Bool → List ℕ
table_of w p = tabulate (entry w p) 0 256

-- a byte entered through a table: the entry of the register's low byte plus the byte, and the rest of the register moved down
unfoldable pub enter_by_table : List ℕ → ℕ → ℕ → ℕ
enter_by_table table register byte = bit_xor (get_or table (bit_xor register byte % 256) 0) (register / 256)

-- the k low bits of a byte, at most eight, entered alone through a table: they meet as many bits of the register, which go through the
-- table as the last of a byte whose first bits are zeros, and the rest of the register moves down
unfoldable pub enter_bits_by_table : List ℕ → ℕ → ℕ → ℕ → ℕ
enter_bits_by_table table register byte k =
    bit_xor (get_or table (bit_xor register byte % 2 ^ k * 2 ^ (8 - k)) 0) (register / 2 ^ k)

-- bytes entered one after the other
unfoldable pub enter_all_by_table : List ℕ → ℕ → List ℕ → ℕ
enter_all_by_table table register [] = register
enter_all_by_table table register (b ∷ bytes) = enter_all_by_table table (enter_by_table table register b) bytes

-- bits entered through a table: their whole bytes, then the bits left over
unfoldable pub enter_string_by_table : List ℕ → ℕ → List Bool → ℕ
enter_string_by_table table register s =
    let n = length s / 8 in
    enter_bits_by_table table (enter_all_by_table table register (pack_into n s)) (value (drop (8 * n) s)) (length s % 8)
