-- `times_x` meets its contract: the number moves down a bit, and where the bit that leaves is set, the generator is added.
-- Assumes nothing.
use Rattle.std.proofs.Common.{arith}
use Rattle.polynomials.proofs.Coefficients.{times_x_odd, times_x_even}
use Rattle.polynomials.proofs.number16.U16Polynomial.times_x.Goals as goal

pub returns-then-self-eq1 : goal.returns-then-self-eq1
returns-then-self-eq1 c = times_x_odd 15 c.args.generator c.args.self (omega arith) (omega arith)

pub returns : goal.returns
returns c = times_x_even 15 c.args.generator c.args.self (omega arith) c.if-self-eq1.false
