-- `frame_bytes` meets its contract: the bits counted, with the closing flag, are those of the frame. Assumes nothing.
use mathlib.Core.Path.{ap, ◌∙◌}
use Prim.Native.Nat.{◌+◌, ◌*◌, ◌≤◌}
use native.Mathlib.Omega.{arith}
use lib.ListN.{length}
use Rattle.bits.specs.Bytes.{bytes_for}
use Rattle.bits.proofs.Bytes.{length-low_bits, length-bits_of}
use Rattle.frame.specs.Stuffing.{stuff}
use Rattle.frame.proofs.Sizes.{content_limit}
use Rattle.frame_writer.specs.Steps.{checked}
use Rattle.frame_writer.proofs.Stepping.{bits_opened, bits_stepped}
use Rattle.frame_writer.proofs.Writers.{run}
use Rattle.frame_writer.proofs.Written.{body, last, all_counted, few_bits, frame_le, counted, closed}
use Rattle.frame_writer.proofs.Checked.frame_bytes.Goals as goal

pub count_bytes-body-requires : goal.count_bytes-body-requires
count_bytes-body-requires c = omega (arith, c.args.self.content.bytes_small, bits_opened c.open.result.at 8 c.open.ensures.pair_is)

pub count_bits-rest-requires : goal.count_bits-rest-requires
count_bits-rest-requires c =
    let f = c.args.self in (
      f.content.bits_few,
      omega (arith, f.content.bytes_small, bits_opened c.open.result.at 8 c.open.ensures.pair_is, bits_stepped c.open.result.at c.count_bytes-body.result.at (length (stuff (run c.open.result) (body f))) c.count_bytes-body.ensures.pair_is, few_bits c.open.result (body f), length-bits_of f.content.bytes.now),
    )

pub count_bytes-tail-requires : goal.count_bytes-tail-requires
count_bytes-tail-requires c =
    let f = c.args.self in
    let b = c.count_bytes-body.result in
    let start : b.at.index + 2 ≤ 2 * content_limit + 4 =
    omega (arith, f.content.bytes_small, bits_opened c.open.result.at 8 c.open.ensures.pair_is, bits_stepped c.open.result.at b.at (length (stuff (run c.open.result) (body f))) c.count_bytes-body.ensures.pair_is, few_bits c.open.result (body f), length-bits_of f.content.bytes.now) in
    omega (arith, start, f.content.bits_few, f.check_small, b.at.place_small, bits_stepped b.at c.count_bits-rest.result.at (length (stuff (run b) (last f))) c.count_bits-rest.ensures.pair_is, few_bits b (last f), length-low_bits f.content.bits f.content.last)

pub after_byte-requires : goal.after_byte-requires
after_byte-requires c =
    let f = c.args.self in
    let k = all_counted f c.count_bytes-body.ensures c.count_bits-rest.ensures c.count_bytes-tail.ensures in
    omega (arith, f.content.bytes_small, f.check_small, frame_le f, counted (checked f) c.open.ensures k)

pub bytes-requires : goal.bytes-requires
bytes-requires c =
    let f = c.args.self in
    let k = all_counted f c.count_bytes-body.ensures c.count_bits-rest.ensures c.count_bytes-tail.ensures in
    omega (arith, f.content.bytes_small, f.check_small, frame_le f, closed (checked f) c.open.ensures k c.after_byte.result c.after_byte.ensures)

pub returns : goal.returns
returns c =
    let f = c.args.self in
    let k = all_counted f c.count_bytes-body.ensures c.count_bits-rest.ensures c.count_bytes-tail.ensures in
    c.bytes.ensures ∙ ap bytes_for (closed (checked f) c.open.ensures k c.after_byte.result c.after_byte.ensures)
