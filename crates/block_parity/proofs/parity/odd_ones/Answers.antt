-- `odd_ones` meets its contract: tried at every byte. Assumes nothing.
use Rattle.block.proofs.Characters.{parity-folded}
use Rattle.block_parity.proofs.parity.odd_ones.Goals as goal

pub returns : goal.returns
returns c = parity-folded c.args.b c.ranges.b.fits
