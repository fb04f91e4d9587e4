-- `pass` meets its contract. The loop's invariant: what is left to pass gives the whole. Assumes nothing.
use Prim.Native.Nat.{◌+◌}
use Rattle.frame_walk.proofs.Passing.{Passing}
use Rattle.frame_walk.proofs.Line.pass.Given as goal

abbrev pub invariant-loop-i : goal.invariant-loop-i
invariant-loop-i l = Passing l.table l.start l.self.lent.now l.self.end l.register l.count (l.i-counter + 1) l.r
