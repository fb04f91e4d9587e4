-- The three polynomials fit the laws. Assumes nothing.
use Prim.Native.Nat.{◌≤◌}
use native.Mathlib.Omega.{arith}
use Rattle.fixed_polynomials.specs.Polynomials.{fixed8, fixed16, fixed24, degree8, degree16, degree24}
use Rattle.fixed_polynomials.proofs.Polynomials.{widths, evens}
use Rattle.fixed_block.specs.declared.Polynomial.{Polynomial}
use Rattle.fixed_block.specs.declared.Polynomial.TheVariants.{Degree8, Degree16, Degree24}
use Rattle.fixed_block.specs.Block.{parameters, check_length}
use Rattle.fixed_block.specs.Laws.{AllFit}

pub all_fit : AllFit
unfolding parameters check_length degree8 degree16 degree24 fixed8 fixed16 fixed24
all_fit Degree8 = record { width = widths.degree_8; even = evens.degree_8 }
all_fit Degree16 = record { width = widths.degree_16; even = evens.degree_16 }
all_fit Degree24 = record { width = widths.degree_24; even = evens.degree_24 }

-- a check fits four bytes, and is no longer than a block
pub record Bounds (p : Polynomial) : Type 0 where
  pub few : check_length (parameters p) ≤ 4
  pub within : check_length (parameters p) ≤ (parameters p).limit

pub bounds : (p : Polynomial) → Bounds p
unfolding parameters check_length degree8 degree16 degree24 fixed8 fixed16 fixed24
bounds Degree8 = record { few = omega arith; within = omega arith }
bounds Degree16 = record { few = omega arith; within = omega arith }
bounds Degree24 = record { few = omega arith; within = omega arith }
