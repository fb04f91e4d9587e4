-- `add_both_kept` meets its contract: the next byte, kept or not, and none. Assumes nothing.
use Rattle.std.proofs.Common.{◌≡◌, ◌+◌, ◌*◌, [], refl, ap₂, ◌∙◌, slice_index_or}
use Rattle.bits.specs.Differences.{cons_if}
use Rattle.block.specs.Check.{xor_all}
use Rattle.block.proofs.Sums.{xor_all-nil, xor_all-append}
use Rattle.block_segments.proofs.Folding.{turn, whole}
use Rattle.block_diagonals.specs.Sums.{turn_all, sums_after}
use Rattle.block_diagonals.proofs.Turning.{turn_all-nil, turn_all-append}
use Rattle.block_diagonals.proofs.add_both_kept.Goals.{then-keeps, else-keeps}
use Rattle.block_diagonals.proofs.add_both_kept.Goals as goal

pub loop-b-init : goal.loop-b-init
loop-b-init c = rw c.new-keeping.ensures record { rows = refl; diagonals = refl }

pub loop-b-preserved : goal.loop-b-preserved
unfolding xor_all turn_all
loop-b-preserved c =
    let l = c.loop-b in
    let part = c.args.part.now in
    let b = slice_index_or part l.b-index 0 in
    let rows : c.if-keeps.sums ≡ xor_all l.sums (cons_if c.keeps.result b []) =
    elim c.if-keeps.branch [ then-keeps w ↦ rw w.if-keeps.true w.sums-is | else-keeps w ↦ rw w.if-keeps.false w.sums-is ] in
    let diagonals : c.if-keeps.register ≡ turn_all l.register (cons_if c.keeps.result b []) =
    elim c.if-keeps.branch [
      | then-keeps w ↦ rw w.if-keeps.true (w.register-is ∙ w.turn_in-register.ensures)
      | else-keeps w ↦ rw w.if-keeps.false w.register-is
    ] in
    record {
      rows = turn xor_all xor_all-nil xor_all-append part l.b-index l.keeping l.invariant.rows c.loop-b-test.true c.keeps.ensures.0 rows c.keeps.ensures.1;
      diagonals = turn turn_all turn_all-nil turn_all-append part l.b-index l.keeping l.invariant.diagonals c.loop-b-test.true c.keeps.ensures.0 diagonals c.keeps.ensures.1;
    }

pub returns : goal.returns
unfolding sums_after
returns c =
    let l = c.loop-b in
    let part = c.args.part.now in
    ap₂ (λ s r. s * 256 + r)
    (whole xor_all xor_all-nil xor_all-append part l.b-index l.keeping l.invariant.rows c.loop-b-test.false)
    (whole turn_all turn_all-nil turn_all-append part l.b-index l.keeping l.invariant.diagonals c.loop-b-test.false)
