-- `copy_both` meets its contract: the text is stored into the part behind the header. Assumes nothing.
use Rattle.block.specs.Characters.{character}
use Rattle.block_segments.specs.Segment.{kept_in}
use Rattle.block_segments.proofs.Copying.{both_stored, first_fills}
use Rattle.block_segments.proofs.copy.copy_both.Goals as goal

pub returns-then-n-out : goal.returns-then-n-out
returns-then-n-out c =
    let a = c.args in
    let first = c.copy_segment-n.ensures in
    both_stored (character a.seven) a.out.now (kept_in a.seven a.header.now) (kept_in a.seven a.text.now) first.0 first.1 c.if-n-out.true c.copy_segment.ensures.1

pub returns-else-n-out : goal.returns-else-n-out
returns-else-n-out c =
    let a = c.args in
    let first = c.copy_segment-n.ensures in
    first_fills (character a.seven) a.out.now (kept_in a.seven a.header.now) (kept_in a.seven a.text.now) first.0 first.1 c.if-n-out.false
