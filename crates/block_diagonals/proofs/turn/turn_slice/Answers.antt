-- `turn_slice` meets its contract: the first piece, one more, and what is left. Assumes nothing.
use Rattle.std.proofs.Common.{◌≡◌, sym, ap, ◌∙◌, arith, length}
use lib.ListN.{length-take}
use Rattle.block_diagonals.specs.Sums.{turn_all}
use Rattle.block_diagonals.proofs.Pieces.{length-xor_bytes, first_piece, one_piece}
use Rattle.block_diagonals.proofs.turn.turn_slice.Goals as goal

pub loop-piece-init : goal.loop-piece-init
loop-piece-init c =
    let part = c.args.part.now in
    let s = c.in-Some.ensures.cases in
    record {
      size = omega (arith, ap length s.0, length-take 56 part, s.2);
      left = first_piece c.args.start 56 part s.0 s.1;
    }

pub loop-piece-preserved : goal.loop-piece-preserved
loop-piece-preserved c =
    let l = c.loop-piece in
    let piece = c.in-Some-split_first_chunk.piece.now in
    let s = c.in-Some-split_first_chunk.ensures.cases in
    let whole : length piece ≡ 56 = omega (arith, ap length s.0, length-take 56 l.rest.now, s.2) in
    record {
      size = ap length c.added-sums.ensures ∙ length-xor_bytes l.sums piece (l.invariant.size ∙ sym whole) ∙ l.invariant.size;
      left = one_piece c.args.start c.args.part.now l.sums l.rest.now l.invariant.size whole l.invariant.left c.added-sums.ensures s.0 s.1;
    }

pub returns : goal.returns
returns c = c.turn_each-3.ensures ∙ ap (λ r. turn_all r c.loop-piece.rest.now) c.turn_each-2.ensures ∙ c.loop-piece.invariant.left
