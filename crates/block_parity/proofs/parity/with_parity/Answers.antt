-- `with_parity` meets its contract: the top bit is set where the seven bits have not the link's parity. Assumes nothing.
use Rattle.block.proofs.Characters.{parity_clear, parity-set}
use Rattle.block_parity.proofs.parity.with_parity.Goals as goal

pub returns-then-odd_ones-is_odd : goal.returns-then-odd_ones-is_odd
returns-then-odd_ones-is_odd c =
    let a = c.args in
    parity_clear a.p a.b c.odd_ones.ensures c.is_odd.ensures c.if-odd_ones-is_odd.true

pub returns-else-odd_ones-is_odd : goal.returns-else-odd_ones-is_odd
returns-else-odd_ones-is_odd c =
    let a = c.args in
    parity-set a.p a.b c.odd_ones.ensures c.is_odd.ensures c.if-odd_ones-is_odd.false
