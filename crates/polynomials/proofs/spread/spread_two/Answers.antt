-- `spread_two` meets its contract: its bytes, each spread. Assumes nothing.
use Rattle.std.proofs.Common.{refl, arith}
use Rattle.polynomials.proofs.Spreading.{spread_halves, spread_joined}
use Rattle.polynomials.proofs.spread.spread_two.Goals as goal

pub returns : goal.returns
returns c =
    let low = c.spread_byte-low in
    let high = c.spread_byte-high in
    spread_joined c.args.bytes low.result high.result _ (omega arith) refl
    (spread_halves 8 c.args.bytes low.result high.result low.ensures high.ensures)
