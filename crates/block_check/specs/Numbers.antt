-- The number that a check adds up over bytes, method by method, and the check that it stands for. Assumes nothing.
use Rattle.std.specs.Prelude.{ℕ, Bool, List, []}
use Rattle.bits.specs.Bytes.{low_bits, bits_of, value}
use Rattle.division.specs.Generators.{ccitt16, ibm16}
use Rattle.cyclic.specs.Check.{invert_if, method3, method4}
use Rattle.generator16.specs.Register.{register_after}
use Rattle.block.specs.declared.Method.{Method}
use Rattle.block.specs.declared.Method.TheVariants as method
use Rattle.block.specs.declared.Parity.{Parity}
use Rattle.block.specs.Characters.{with_parity}
use Rattle.block.specs.Check.{xor_all}
use Rattle.block_diagonals.specs.Sums.{sums_after, characters}

-- before any byte: of methods 3 and 4 the number whose bits are the method's start
abbrev pub start_of : Method → ℕ
start_of method.Parity = 0
start_of method.Matrix = 0
start_of method.Cyclic = value method3.start
start_of method.CyclicAlternative = value method4.start
start_of method.Diagonal = 0

-- the sums of the matrix, the register of methods 3 and 4, both sums of method 7; the parity method adds up nothing
unfoldable pub number_after : Method → ℕ → List ℕ → ℕ
number_after method.Parity number bs = number
number_after method.Matrix number bs = xor_all number bs
number_after method.Cyclic number bs = register_after ccitt16 number bs
number_after method.CyclicAlternative number bs = register_after ibm16 number bs
number_after method.Diagonal number bs = sums_after number bs

-- the check in the order sent
unfoldable pub check_from : Method → Parity → ℕ → List Bool
check_from method.Parity p number = []
check_from method.Matrix p number = low_bits 8 (with_parity p number)
check_from method.Cyclic p number = invert_if method3.inverted (low_bits 16 number)
check_from method.CyclicAlternative p number = invert_if method4.inverted (low_bits 16 number)
check_from method.Diagonal p number = bits_of (characters p number)
