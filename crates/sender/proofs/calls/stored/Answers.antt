-- `stored` meets its contract. Assumes nothing.
use Rattle.std.proofs.Common.{Ok, ap}
use Rattle.sender.specs.declared.Station.{Station}
use Rattle.sender.specs.Answers.{told}
use Rattle.sender.proofs.calls.stored.Goals as goal

pub returns : goal.returns
returns c = ap (λ (s : Station). told (Ok c.args.station.next) s) c.with_block.ensures
