-- `refused` meets its contract. Assumes nothing.
use Rattle.std.proofs.Common.{refl}
use Rattle.sender.proofs.calls.refused.Goals as goal

pub returns : goal.returns
returns c = refl
