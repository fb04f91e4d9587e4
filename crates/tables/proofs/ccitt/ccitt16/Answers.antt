-- `ccitt16` meets its contract: the table computed from the generator is the one in the source. Assumes nothing.
use mathlib.Core.Bool.{xor}
use mathlib.Core.Path.{refl}
use Rattle.bits.specs.Bytes.{low_bits, value}
use Rattle.division.specs.Division.{divide}
use Rattle.division.specs.Generators.{ccitt16}
use Rattle.registers.specs.Register.{table_of}
use Rattle.tables.proofs.ccitt.ccitt16.Goals as goal

pub returns : goal.returns
unfolding low_bits value divide ccitt16 table_of xor
returns c = refl
