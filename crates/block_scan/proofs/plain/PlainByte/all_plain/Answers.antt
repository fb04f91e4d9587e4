-- `all_plain` meets its contract: one byte more, which is no sign. Assumes nothing.
use Rattle.block.specs.Signs.{koi7}
use Rattle.block_scan.specs.Tests.{is_plain_byte}
use Rattle.block_scan.proofs.Bytes.{least_plain, one_more}
use Rattle.block_scan.proofs.plain.PlainByte.all_plain.Goals as goal

pub loop-b-preserved : goal.loop-b-preserved
loop-b-preserved c =
    let s = c.args.self in
    one_more (is_plain_byte koi7 s.seven s.low) c.args.sixteen.now c.loop-b.invariant (least_plain s.seven s.low _ c.character.ensures c.loop-b.below c.loop-b.least c.off_signs.ensures c.min-least.ensures)
