-- `ieee32` meets its contract: the table computed from the generator is the one in the source. Assumes nothing.
use mathlib.Core.Bool.{xor}
use mathlib.Core.Path.{refl}
use Rattle.bits.specs.Bytes.{low_bits, value}
use Rattle.division.specs.Division.{divide}
use Rattle.division.specs.Generators.{ieee32}
use Rattle.registers.specs.Register.{table_of}
use Rattle.tables.proofs.ieee.ieee32.Goals as goal

pub returns : goal.returns
unfolding low_bits value divide ieee32 table_of xor
returns c = refl
