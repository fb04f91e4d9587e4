-- `spread` meets its contract: the halves of the number, each spread. Assumes nothing.
use Rattle.polynomials.proofs.Spreading.{spread_halves}
use Rattle.polynomials.proofs.number32.U32Polynomial.spread.Goals as goal

pub returns : goal.returns
returns c = spread_halves 16 c.args.self c.spread_two.result c.spread_two-2.result c.spread_two.ensures c.spread_two-2.ensures
