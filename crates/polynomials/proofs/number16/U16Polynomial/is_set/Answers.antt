-- `is_set` meets its contract: the bit at the place, or none. Assumes nothing.
use Rattle.polynomials.proofs.Coefficients.{coefficient, no_coefficient}
use Rattle.polynomials.proofs.number16.U16Polynomial.is_set.Goals as goal

pub returns-then-place-lt16 : goal.returns-then-place-lt16
returns-then-place-lt16 c = coefficient 16 c.args.self c.args.place c.if-place-lt16.true

pub returns-else-place-lt16 : goal.returns-else-place-lt16
returns-else-place-lt16 c = no_coefficient 16 c.args.self c.args.place c.if-place-lt16.false
