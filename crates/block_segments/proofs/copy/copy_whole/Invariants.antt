-- `copy_whole` meets its contract. The loop's invariant: what is left to store, laid over the output, gives the whole. Assumes nothing.
use Rattle.block.specs.Characters.{character}
use Rattle.block_segments.proofs.Copying.{CopyingAll}
use Rattle.block_segments.proofs.copy.copy_whole.Given as goal

abbrev pub invariant-loop-i : goal.invariant-loop-i
invariant-loop-i l = CopyingAll (character l.seven) l.part l.initial.out l.out l.i
