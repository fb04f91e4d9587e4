-- A register after content and check together holds the residue exactly where the check is right. Assumes nothing.
use mathlib.Core.Path.{◌≡◌, refl, sym, ap, ◌∙◌}
use Prim.Native.Nat.{ℕ, ◌^◌, ◌<◌}
use mathlib.Core.Bool.{Bool, false, xor}
use mathlib.Core.List.{List, ◌++◌}
use lib.Dec.{eqb}
use lib.ListN.{length}
use Rattle.bits.specs.Strings.{same}
use Rattle.bits.specs.Bytes.{low_bits}
use Rattle.bits.proofs.Bytes.{low_bits_injective, equal_as_bits}
use Rattle.division.specs.Division.{divide, remainder}
use Rattle.registers.specs.Register.{enter}
use Rattle.cyclic.specs.Check.{Parameters, formula, check_bits}
use Rattle.cyclic.specs.Laws.{OfWidth, residue_if}
use Rattle.cyclic.proofs.Checks.{receiver}
use Rattle.cyclic.proofs.Methods.{holds_check}
use Rattle.fixed_polynomials.specs.Polynomials.{fixed8, fixed16, fixed24, degree8, degree16, degree24}

-- a register that began at the start holds the formula: the check where nothing is inverted
holds_formula : (w : ℕ) (m : Parameters) → OfWidth w m → (c start after : List Bool) → start ≡ m.start → after ≡ enter m.generator start c → after ≡ formula m c
unfolding check_bits formula
holds_formula w m o c start after began entered =
    holds_check w (record m { inverted = false }) (record { generator = o.generator; start-length = o.start-length }) c start after after began entered refl

module _ (w : ℕ) (m : Parameters) (o : OfWidth w m) (start register residue : ℕ) (b c s : List Bool) where
  pub received : register < 2 ^ w → residue < 2 ^ w → low_bits w start ≡ m.start → low_bits w register ≡ enter m.generator (low_bits w start) b
      → low_bits w residue ≡ residue_if m.inverted w m.generator → b ≡ c ++ s → length s ≡ w → eqb register residue ≡ same s (check_bits m c)
  received fits small began entered right parts wide =
      let f : low_bits w register ≡ formula m (c ++ s) = holds_formula w m o b (low_bits w start) (low_bits w register) began entered ∙ ap (formula m) parts in
      let q = receiver w m o c s wide in
      equal_as_bits register residue s (check_bits m c)
      (λ e. q.0 (sym f ∙ ap (low_bits w) e ∙ right))
      (λ e. low_bits_injective w register residue fits small (f ∙ q.1 e ∙ sym right))

-- ---- the residues, by their numbers

pub residue_8 : low_bits 8 0xcf ≡ residue_if degree8.inverted 8 degree8.generator
unfolding low_bits degree8 fixed8 divide remainder xor
residue_8 = refl

pub residue_16 : low_bits 16 0x0621 ≡ residue_if degree16.inverted 16 degree16.generator
unfolding low_bits degree16 fixed16 divide remainder xor
residue_16 = refl

pub residue_24 : low_bits 24 0x95fc3c ≡ residue_if degree24.inverted 24 degree24.generator
unfolding low_bits degree24 fixed24 divide remainder xor
residue_24 = refl
