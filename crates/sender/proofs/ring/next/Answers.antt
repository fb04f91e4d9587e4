-- `next` meets its contract: the last place is followed by 0. Assumes nothing.
use Rattle.sender.proofs.Rings.{next-below, next-wraps}
use Rattle.sender.proofs.ring.next.Goals as goal

pub returns-then-x-m : goal.returns-then-x-m
returns-then-x-m c = next-wraps c.args.m c.args.x c.if-x-m.true

pub returns-else-x-m : goal.returns-else-x-m
returns-else-x-m c = next-below c.args.m c.args.x c.requires c.if-x-m.false
