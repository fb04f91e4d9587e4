-- `monomial` meets its contract: a single bit, or none. Assumes nothing.
use Rattle.polynomials.proofs.Coefficients.{monomial_bit, monomial_zero}
use Rattle.polynomials.proofs.number16.U16Polynomial.monomial.Goals as goal

pub returns-then-n-lt16 : goal.returns-then-n-lt16
returns-then-n-lt16 c = monomial_bit 16 c.args.n c.if-n-lt16.true

pub returns-else-n-lt16 : goal.returns-else-n-lt16
returns-else-n-lt16 c = monomial_zero 16 c.args.n c.if-n-lt16.false
