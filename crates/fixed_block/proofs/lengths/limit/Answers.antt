-- `limit` meets its contract: the constants are those of the polynomial. Assumes nothing.
use mathlib.Core.Path.{refl}
use Rattle.fixed_polynomials.specs.Polynomials.{degree8, degree16, degree24}
use Rattle.fixed_block.specs.Block.{parameters}
use Rattle.fixed_block.proofs.lengths.limit.Goals as goal

pub returns-in-Degree8 : goal.returns-in-Degree8
unfolding parameters degree8 degree16 degree24
returns-in-Degree8 c = rw c.in-Degree8.is refl

pub returns-in-Degree16 : goal.returns-in-Degree16
unfolding parameters degree8 degree16 degree24
returns-in-Degree16 c = rw c.in-Degree16.is refl

pub returns-in-Degree24 : goal.returns-in-Degree24
unfolding parameters degree8 degree16 degree24
returns-in-Degree24 c = rw c.in-Degree24.is refl
