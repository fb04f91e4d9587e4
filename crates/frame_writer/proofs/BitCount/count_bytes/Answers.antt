-- `count_bytes` meets its contract: a turn counts the next byte. Assumes nothing.
use native.Mathlib.Omega.{arith}
use lib.ListN.{get_or}
use Rattle.bits.specs.Bytes.{low_bits, bits_of}
use Rattle.bits.proofs.Bytes.{length-bits_of}
use Rattle.frame_writer.proofs.Writers.{count_turn, count_whole}
use Rattle.frame_writer.proofs.Written.{few_bits}
use Rattle.frame.proofs.Words.{bits_of_on, bits_of-none}
use Rattle.frame_writer.proofs.BitCount.count_bytes.Goals as goal

pub count_byte-count-requires : goal.count_byte-count-requires
count_byte-count-requires c =
    let v = c.loop-byte in
    let bytes = c.args.bytes.now in
    omega (arith, c.requires, v.invariant.bits_are, few_bits c.args.self (bits_of bytes), length-bits_of bytes, c.loop-byte-test.true, c.args.self.at.place_small)

pub loop-byte-preserved : goal.loop-byte-preserved
loop-byte-preserved c =
    let v = c.loop-byte in
    let bytes = c.args.bytes.now in
    count_turn (low_bits 8 (get_or bytes v.byte-index 0)) v.invariant (bits_of_on bytes v.byte-index c.loop-byte-test.true) c.count_byte-count.ensures

pub returns : goal.returns
returns c =
    let v = c.loop-byte in
    count_whole v.invariant (bits_of-none c.args.bytes.now v.byte-index c.loop-byte-test.false)
