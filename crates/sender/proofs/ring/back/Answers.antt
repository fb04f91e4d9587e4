-- `back` meets its contract: the place is within the ring, or one round further. Assumes nothing.
use Rattle.sender.proofs.Rings.{back-within, back-around}
use Rattle.sender.proofs.ring.back.Goals as goal

pub returns-then-x-ahead : goal.returns-then-x-ahead
returns-then-x-ahead c = back-within c.args.m c.args.x c.args.d c.requires.d_below c.if-x-ahead.true

pub returns-else-x-ahead : goal.returns-else-x-ahead
returns-else-x-ahead c = back-around c.args.m c.args.x c.args.d c.requires.x_below c.requires.d_below c.if-x-ahead.false
