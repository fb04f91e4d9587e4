-- `put_bytes` meets its contract: a turn puts the next byte. Assumes nothing.
use lib.ListN.{drop}
use Rattle.bits.specs.Bytes.{bits_of}
use Rattle.frame_writer.proofs.Writers.{Putting}
use Rattle.frame_writer.proofs.BitWriter.put_bytes.Given as goal

abbrev pub invariant-loop-byte : goal.invariant-loop-byte
invariant-loop-byte l = Putting l.initial.out l.initial.w (bits_of l.bytes) l.out l.w (bits_of (drop l.byte-index l.bytes))
