-- `all_above` meets its contract: one byte more, above every sign. Assumes nothing.
use Rattle.std.proofs.lemmas.Bool.{and_parts}
use Rattle.block.specs.Signs.{koi7}
use Rattle.block_scan.specs.Tests.{is_plain_byte}
use Rattle.block_scan.proofs.Bytes.{above_plain, one_more}
use Rattle.block_scan.proofs.plain.PlainByte.all_above.Goals as goal

pub loop-b-preserved : goal.loop-b-preserved
loop-b-preserved c =
    let s = c.args.self in
    one_more (is_plain_byte koi7 s.seven s.low) c.args.sixteen.now c.loop-b.invariant (λ e. let b = and_parts c.loop-b.all _ e in (b.0, above_plain s.seven s.low _ c.character.ensures b.1))
