-- `event_of` meets its contract: the bytes stand where the rule reads them. Assumes nothing.
use Rattle.std.proofs.Common.{refl}
use Rattle.replay.proofs.records.event_of.Goals as goal

pub returns : goal.returns
returns c = refl
