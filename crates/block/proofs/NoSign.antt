-- A character that is none of the seven signs is classed as other. Assumes nothing.
use mathlib.Core.Path.{◌≡◌}
use Prim.Native.Nat.{ℕ, ◌<◌}
use native.Mathlib.Omega.{arith}
use borrow.Author.Tests.{ne_eqb}
use Rattle.block.specs.Signs.{CodeTable, koi7, sign_of, other}

-- what the arms of ranges know of a character: it is none of the signs, in the order of the arms
abbrev pub NoSign : CodeTable → ℕ → Type 0
NoSign t b =
    ((((((Unit {0} × (b ≡ t.SOH → ⊥)) × (b ≡ t.STX → ⊥)) × (b ≡ t.DLE → ⊥)) × (b ≡ t.SYN → ⊥)) × (b ≡ t.ETX → ⊥)) × (b ≡ t.ETB → ⊥)) × (b ≡ t.US → ⊥)

pub no_sign : (t : CodeTable) (b : ℕ) → NoSign t b → sign_of t b ≡ other
unfolding sign_of
no_sign t b h =
    simp (
      ne_eqb b t.SOH h.0.0.0.0.0.0.1,
      ne_eqb b t.STX h.0.0.0.0.0.1,
      ne_eqb b t.DLE h.0.0.0.0.1,
      ne_eqb b t.SYN h.0.0.0.1,
      ne_eqb b t.ETX h.0.0.1,
      ne_eqb b t.ETB h.0.1,
      ne_eqb b t.US h.1,
    )

pub above_koi7 : (b : ℕ) → 0x1F < b → sign_of koi7 b ≡ other
above_koi7 b h =
    no_sign koi7 b
    (((((((tt, λ e. omega arith), λ e. omega arith), λ e. omega arith), λ e. omega arith), λ e. omega arith), λ e. omega arith), λ e. omega arith)
