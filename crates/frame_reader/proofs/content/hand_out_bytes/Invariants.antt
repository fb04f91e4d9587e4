-- `hand_out_bytes` meets its contract. The loop's invariant: storing the bytes that the reader has still to give makes the whole. Assumes nothing.
use Prim.Native.Nat.{◌+◌}
use Rattle.frame_reader.proofs.HandingOut.{HandingOut}
use Rattle.frame_reader.proofs.content.hand_out_bytes.Given as goal

abbrev pub invariant-loop-byte : goal.invariant-loop-byte
invariant-loop-byte l = HandingOut l.lent l.end l.n l.initial.out l.out l.r (l.byte-index + 1) l.i
