-- `monomial` meets its contract: a single bit, or none. Assumes nothing.
use Rattle.polynomials.proofs.Coefficients.{monomial_bit, monomial_zero}
use Rattle.polynomials.proofs.number32.U32Polynomial.monomial.Goals as goal

pub returns-then-n-lt32 : goal.returns-then-n-lt32
returns-then-n-lt32 c = monomial_bit 32 c.args.n c.if-n-lt32.true

pub returns-else-n-lt32 : goal.returns-else-n-lt32
returns-else-n-lt32 c = monomial_zero 32 c.args.n c.if-n-lt32.false
