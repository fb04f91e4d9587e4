-- `open` meets its contract: eight bits stand before. Assumes nothing.
use mathlib.Core.Path.{refl}
use Rattle.frame_writer.specs.Stepping.{stepped, pair}
use Rattle.frame_writer.proofs.BitCount.open.Goals as goal

pub returns : goal.returns
unfolding stepped pair
returns c = record { pair_is = refl; before_is = refl }
