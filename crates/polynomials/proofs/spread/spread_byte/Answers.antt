-- `spread_byte` meets its contract: tested at every byte. Assumes nothing.
use Rattle.polynomials.proofs.Spreading.{spread_byte_lem}
use Rattle.polynomials.proofs.spread.spread_byte.Goals as goal

pub returns : goal.returns
returns c = spread_byte_lem c.args.byte c.requires
