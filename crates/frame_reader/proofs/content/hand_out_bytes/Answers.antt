-- `hand_out_bytes` meets its contract. The loop's invariant: storing the bytes that the reader has still to give makes the whole. Assumes nothing.
use Prim.Native.Nat.{◌-◌, ◌/◌, ◌<◌}
use mathlib.Core.Path.{subst}
use native.Mathlib.Omega.{arith}
use lib.ListN.{take, drop, get_or}
use Rattle.std.proofs.Common.{rules}
use Rattle.zero_removal.specs.Removal.{Gives, Receives}
use Rattle.zero_removal.specs.Reader.{ReadsByte}
use Rattle.zero_removal.proofs.Parts.{byte_between}
use Rattle.frame_reader.proofs.HandingOut.{hand_room, hand_begin, hand_sound, hand_turn, hand_part, hand_all, hand_end}
use Rattle.frame_reader.proofs.content.hand_out_bytes.Goals as goal
use Rattle.frame_reader.proofs.content.hand_out_bytes.Goals.{in-Some, in_default}

pub loop-byte-init : goal.loop-byte-init
loop-byte-init c = hand_begin c.args.lent.now c.args.end c.args.n c.args.out.now c.requires.2 c.new-r.ensures

pub returns-then-i-n : goal.returns-then-i-n
returns-then-i-n c = hand_end c.loop-byte.invariant (omega (arith, c.if-i-n.true))

pub slice_bounds-byte-items-count : goal.slice_bounds-byte-items-count
slice_bounds-byte-items-count c = omega (arith, hand_room c.args.lent.now c.args.end c.args.n c.requires.0 c.requires.1 c.requires.2)

pub slice_bounds-byte-items-start : goal.slice_bounds-byte-items-start
slice_bounds-byte-items-start c = omega (arith, hand_room c.args.lent.now c.args.end c.args.n c.requires.0 c.requires.1 c.requires.2)

pub unwrap-got-requires : goal.unwrap-got-requires
unwrap-got-requires c =
    let v = c.loop-byte.invariant in
    let same = byte_between c.args.lent.now (c.args.end / 8) c.loop-byte.byte-index (omega (arith, c.loop-byte-test.true)) in
    hand_sound c.requires.1 v (omega (arith, c.if-i-n.false, v.within)) c.unstuff_byte.result
    (subst (λ b. Receives c.loop-byte.r.before b c.unstuff_byte.result) same (c.unstuff_byte.ensures v.fits.before_small))

pub loop-byte-preserved : goal.loop-byte-preserved
loop-byte-preserved c =
    let v = c.loop-byte.invariant in
    let byte = get_or (take (c.args.end / 8 - 1) (drop 1 c.args.lent.now)) c.loop-byte.byte-index 0 in
    let gives : Gives c.loop-byte.r.before byte c.unwrap-got.result =
    subst (Receives c.loop-byte.r.before byte) c.unwrap-got.ensures (c.unstuff_byte.ensures v.fits.before_small) in
    let same = byte_between c.args.lent.now (c.args.end / 8) c.loop-byte.byte-index (omega (arith, c.loop-byte-test.true)) in
    let e = subst (λ b. ReadsByte c.loop-byte.r b c.read_bits-read.result) same (c.read_bits-read.ensures _ v.fits gives) in
    let more : c.loop-byte.i < c.args.n = omega (arith, c.if-i-n.false, v.within) in
    elim c.match-read.branch [
      | in-Some w ↦ rw (w.out-is, w.i-is) (hand_turn c.requires.1 v more e w.in-Some.is (search rules))
      | in_default w ↦ rw (w.out-is, w.i-is) (hand_part c.requires.1 v more e w.in_default.is)
    ]

pub returns : goal.returns
returns c =
    let v = c.loop-byte.invariant in
    hand_end v (hand_all c.requires.1 v (omega (arith, c.loop-byte-test.false)))
