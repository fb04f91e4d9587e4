-- `acknowledge_to` meets its contract, which is that of `acknowledge`. Assumes nothing.
use Rattle.sender.proofs.calls.acknowledge_to.Goals as goal

pub returns : goal.returns
returns c = c.acknowledge-acknowledged.ensures
