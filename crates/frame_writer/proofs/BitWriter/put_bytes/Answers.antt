-- `put_bytes` meets its contract: a turn puts the next byte. Assumes nothing.
use Prim.Native.Nat.{◌+◌}
use lib.ListN.{drop, get_or}
use Rattle.bits.specs.Bytes.{low_bits, bits_of}
use Rattle.frame_writer.proofs.Writers.{room, put_turn, put_whole}
use Rattle.frame.proofs.Words.{bits_of_on, bits_of-none}
use Rattle.frame_writer.proofs.BitWriter.put_bytes.Goals as goal

pub put_byte-w-requires : goal.put_byte-w-requires
put_byte-w-requires c =
    let v = c.loop-byte in
    let bytes = c.args.bytes.now in
    room (low_bits 8 (get_or bytes v.byte-index 0)) (bits_of (drop (v.byte-index + 1) bytes)) v.invariant (bits_of_on bytes v.byte-index c.loop-byte-test.true) c.requires

pub loop-byte-preserved : goal.loop-byte-preserved
loop-byte-preserved c =
    let p = c.put_byte-w in
    let v = c.loop-byte in
    let bytes = c.args.bytes.now in
    put_turn (low_bits 8 (get_or bytes v.byte-index 0)) v.invariant (bits_of_on bytes v.byte-index c.loop-byte-test.true) p.ensures p.auto.out

pub returns : goal.returns
returns c =
    let v = c.loop-byte in
    put_whole v.invariant (bits_of-none c.args.bytes.now v.byte-index c.loop-byte-test.false)
