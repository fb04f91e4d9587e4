-- `copy_whole` meets its contract: all of the segment is stored, or the output is full. Assumes nothing.
use native.Mathlib.Omega.{arith}
use lib.ListN.{length-take}
use Rattle.block.specs.Characters.{character}
use Rattle.block_segments.proofs.Copying.{all-stored}
use Rattle.block_segments.proofs.copy.copy_whole.Goals as goal

pub returns : goal.returns
returns c =
    let a = c.args in
    all-stored (character a.seven) a.part.now c.loop-i.i c.loop-i.invariant (omega (arith, c.loop-i-test.false, c.min.ensures, length-take c.min.result a.part.now))
