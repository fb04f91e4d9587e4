-- `enter_gathered` meets its contract: a piece is gathered and enters, or none is left. Assumes nothing.
use Rattle.std.proofs.Common.{ap, ◌∙◌, ◌≤◌, length, arith}
use Rattle.std.specs.Slice.Iter.{chunks_rest}
use Rattle.generator16.specs.Register.{register_after}
use Rattle.block.specs.Signs.{table_of}
use Rattle.block_register.proofs.Pieces.{piece, no_piece, gathered_size, gathered_fits, gathered_is, gathered_length}
use Rattle.block_register.proofs.enter_gathered.Goals as goal

pub slice_bounds-gathered-end : goal.slice_bounds-gathered-end
slice_bounds-gathered-end g c =
    let l = c.loop-piece in
    let short : length c.in-Some.piece.now ≤ 256 = omega (arith, c.in-Some.ensures.steps.1.1, l.invariant.size) in
    gathered_fits (table_of c.args.code) c.in-Some.piece.now l.gathered l.invariant.room short c.copy_kept-n.ensures.0 c.copy_kept-n.ensures.1

pub slice_bounds-enter_run-end : goal.slice_bounds-enter_run-end
slice_bounds-enter_run-end g c =
    let l = c.loop-piece in
    let short : length c.in-Some.piece.now ≤ 256 = omega (arith, c.in-Some.ensures.steps.1.1, l.invariant.size) in
    gathered_length (table_of c.args.code) c.in-Some.piece.now l.gathered l.invariant.room short c.copy_kept-n.ensures.0 c.copy_kept-n.ensures.1

pub loop-piece-preserved : goal.loop-piece-preserved
loop-piece-preserved g c =
    let l = c.loop-piece in
    let s = c.in-Some.ensures.steps in
    let short : length c.in-Some.piece.now ≤ 256 = omega (arith, s.1.1, l.invariant.size) in
    let k = c.copy_kept-n.ensures in
    let p = g.G.Generator.generator in
    record {
      room = gathered_size (table_of c.args.code) c.in-Some.piece.now l.gathered l.invariant.room short k.0 k.1;
      size = s.0 ∙ l.invariant.size;
      left = piece (table_of c.args.code) p l.register c.in-Some.piece.now (chunks_rest c.next.new.self) l.invariant.left s.1.0 (c.enter_run-register.ensures ∙ ap (register_after p l.register) (gathered_is (table_of c.args.code) c.in-Some.piece.now l.gathered l.invariant.room short k.0 k.1));
    }

pub returns : goal.returns
returns g c =
    let l = c.loop-piece in
    no_piece (table_of c.args.code) g.G.Generator.generator l.register (chunks_rest l.piece-iterator) c.in-None.ensures.steps.1.0 l.invariant.left
