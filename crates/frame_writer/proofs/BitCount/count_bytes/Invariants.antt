-- `count_bytes` meets its contract: a turn counts the next byte. Assumes nothing.
use lib.ListN.{drop}
use Rattle.bits.specs.Bytes.{bits_of}
use Rattle.frame_writer.proofs.Writers.{Counting}
use Rattle.frame_writer.proofs.BitCount.count_bytes.Given as goal

abbrev pub invariant-loop-byte : goal.invariant-loop-byte
invariant-loop-byte l = Counting l.initial.count (bits_of l.bytes) l.count (bits_of (drop l.byte-index l.bytes))
