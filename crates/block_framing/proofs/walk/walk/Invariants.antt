-- `walk` meets its contract. The loop's invariant: what is left of the walk gives the whole. The measure is what is left of the line. Assumes nothing.
use Prim.Native.Nat.{◌-◌}
use lib.ListN.{length}
use Rattle.block.specs.Signs.{table_of}
use Rattle.block_framing.proofs.Turns.{Walking}
use Rattle.block_framing.proofs.walk.walk.Given as goal

abbrev pub invariant-loop-i : goal.invariant-loop-i
invariant-loop-i l = Walking (table_of l.code) l.seven l.line l.t l.f l.i

abbrev pub decreases-loop-i : goal.decreases-loop-i
decreases-loop-i l = length l.line - l.i
