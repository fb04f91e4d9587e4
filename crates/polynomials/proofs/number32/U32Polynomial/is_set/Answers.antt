-- `is_set` meets its contract: the bit at the place, or none. Assumes nothing.
use Rattle.polynomials.proofs.Coefficients.{coefficient, no_coefficient}
use Rattle.polynomials.proofs.number32.U32Polynomial.is_set.Goals as goal

pub returns-then-place-lt32 : goal.returns-then-place-lt32
returns-then-place-lt32 c = coefficient 32 c.args.self c.args.place c.if-place-lt32.true

pub returns-else-place-lt32 : goal.returns-else-place-lt32
returns-else-place-lt32 c = no_coefficient 32 c.args.self c.args.place c.if-place-lt32.false
