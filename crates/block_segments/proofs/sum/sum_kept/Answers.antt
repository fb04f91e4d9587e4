-- `sum_kept` meets its contract: the next byte, kept or not, and none. Assumes nothing.
use Rattle.std.proofs.Common.{◌≡◌, [], slice_index_or}
use Rattle.bits.specs.Differences.{cons_if}
use Rattle.block.specs.Check.{xor_all}
use Rattle.block.proofs.Sums.{xor_all-nil, xor_all-append}
use Rattle.block_segments.proofs.Folding.{turn, whole}
use Rattle.block_segments.proofs.sum.sum_kept.Goals.{then-keeps, else-keeps}
use Rattle.block_segments.proofs.sum.sum_kept.Goals as goal

pub loop-b-preserved : goal.loop-b-preserved
unfolding xor_all
loop-b-preserved c =
    let b = slice_index_or c.args.part.now c.loop-b.b-index 0 in
    let next : c.if-keeps.sum ≡ xor_all c.loop-b.sum (cons_if c.keeps.result b []) =
    elim c.if-keeps.branch [ then-keeps w ↦ rw w.if-keeps.true w.sum-is | else-keeps w ↦ rw w.if-keeps.false w.sum-is ] in
    turn xor_all xor_all-nil xor_all-append c.args.part.now c.loop-b.b-index c.loop-b.keeping c.loop-b.invariant c.loop-b-test.true c.keeps.ensures.0 next c.keeps.ensures.1

pub returns : goal.returns
returns c = whole xor_all xor_all-nil xor_all-append c.args.part.now c.loop-b.b-index c.loop-b.keeping c.loop-b.invariant c.loop-b-test.false
