-- `spread` meets its contract: the halves of the number, each spread. Assumes nothing.
use Rattle.polynomials.proofs.Spreading.{spread_halves}
use Rattle.polynomials.proofs.number16.U16Polynomial.spread.Goals as goal

pub returns : goal.returns
returns c = spread_halves 8 c.args.self c.spread_byte.result c.spread_byte-2.result c.spread_byte.ensures c.spread_byte-2.ensures
