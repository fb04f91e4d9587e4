-- The register of a generator of 16 bits after bytes. Assumes nothing.
use Rattle.std.specs.Prelude.{ℕ, Bool, List}
use Rattle.registers.specs.Register.{table_of, enter_all_by_table}

-- as a number: the one that the generator's table gives
abbrev pub register_after : List Bool → ℕ → List ℕ → ℕ
register_after generator = enter_all_by_table (table_of 16 generator)
