-- `cell_start` meets its contract. Assumes nothing.
use Rattle.std.proofs.Common.{refl}
use Rattle.sender.proofs.calls.cell_start.Goals as goal

pub returns : goal.returns
returns c = refl
