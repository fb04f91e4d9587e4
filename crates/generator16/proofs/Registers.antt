-- A register is known by its bits: as a number, the one that the table of its generator gives. Assumes nothing.
use mathlib.Core.Path.{◌≡◌, refl, sym, ap, ◌∙◌}
use Prim.Native.Nat.{ℕ, ◌^◌, ◌<◌}
use mathlib.Core.Bool.{Bool}
use mathlib.Core.List.{List, [], ◌∷◌, ◌++◌}
use lib.ListN.{length}
use Rattle.bits.specs.Bytes.{low_bits, bits_of}
use Rattle.bits.proofs.Bytes.{low_bits_injective}
use Rattle.registers.specs.Register.{enter_by_table, enter_all_by_table, enter, table_of}
use Rattle.registers.proofs.Table.{table_enters, enter_all_by_table_lt}
use Rattle.generator16.specs.Register.{register_after}

-- `bits_of_number`: of a generator's register, those of its number
pub is_register : (p : List Bool) → length p ≡ 16 → {bits_of_number : ℕ → List Bool} → ((n : ℕ) → bits_of_number n ≡ low_bits 16 n)
    → (start : ℕ) (bytes : List ℕ) (r : ℕ) → start < 2 ^ 16 → r < 2 ^ 16
    → bits_of_number r ≡ enter p (bits_of_number start) (bits_of bytes) → r ≡ register_after p start bytes
is_register p width low start bytes r fits small e =
    low_bits_injective 16 r (register_after p start bytes) small (enter_all_by_table_lt 8 p width start bytes fits)
    (sym (low r) ∙ e ∙ ap (λ s. enter p s (bits_of bytes)) (low start) ∙ sym (table_enters 8 p width start bytes fits))

-- ---- bytes that enter one after the other

pub after-nil : (p : List Bool) (register : ℕ) → register_after p register [] ≡ register
unfolding enter_all_by_table
after-nil p register = refl

pub after-append : (p : List Bool) (register : ℕ) (xs ys : List ℕ) → register_after p register (xs ++ ys) ≡ register_after p (register_after p register xs) ys
unfolding enter_all_by_table
after-append p register [] ys = refl
after-append p register (x ∷ xs) ys = after-append p (enter_by_table (table_of 16 p) register x) xs ys
