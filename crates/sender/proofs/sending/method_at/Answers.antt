-- `method_at` meets its contract: each branch is the rule's. Assumes nothing.
use Rattle.std.proofs.Common.{◌-◌, le-leb, arith}
use borrow.Author.Tests.{lt-leb}
use Rattle.sender.specs.Sending.{method_at}
use Rattle.sender.proofs.sending.method_at.Goals as goal

pub returns-then-station-d : goal.returns-then-station-d
unfolding method_at
returns-then-station-d c = let s = c.args.station in rw (le-leb (s.stored - s.older) c.args.d (omega arith))

pub returns-else-station-d : goal.returns-else-station-d
unfolding method_at
returns-else-station-d c = let s = c.args.station in rw (lt-leb (s.stored - s.older) c.args.d (omega arith))
