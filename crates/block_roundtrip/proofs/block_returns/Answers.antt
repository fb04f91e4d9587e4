-- `block_returns` meets its contract: write_block's answer and output give the line that read_block reads back, and its answer and
-- output give what is compared. Assumes nothing.
use mathlib.Core.Path.{sym, ap, ◌∙◌}
use lib.Seq.{length-take-le}
use Rattle.std.proofs.Common.{Err}
use Rattle.std.proofs.lemmas.Result.{err_from_is_err_and}
use Rattle.block.specs.Signs.{table_of}
use Rattle.roundtrip.specs.Returns.{returned}
use Rattle.bits.proofs.Mapped.{value_kept, error_mapped}
use Rattle.block_roundtrip.specs.Returns.{of_block_return}
use Rattle.block_roundtrip.proofs.Returns.{written_line, taken_back, taken_returns, refused_returns}
use Rattle.block_roundtrip.proofs.block_returns.Goals as goal

pub slice_bounds-read_block-end : goal.slice_bounds-read_block-end
slice_bounds-read_block-end c =
    let l = c.args.link in
    let s = c.args.parts.now in
    let w = written_line (table_of l.code) l.method l.parity s.shape s.end s.header.now s.text.now c.args.line.now c.args.out.now _ c.write_block.ensures (value_kept _ c.write_block.result c.map_err.ensures.cases c.in_ok-n.was) in
    w.within

pub slice_bounds-read_block-end-2 : goal.slice_bounds-read_block-end-2
slice_bounds-read_block-end-2 c =
    let l = c.args.link in
    let s = c.args.parts.now in
    let w = written_line (table_of l.code) l.method l.parity s.shape s.end s.header.now s.text.now c.args.line.now c.args.out.now _ c.write_block.ensures (value_kept _ c.write_block.result c.map_err.ensures.cases c.in_ok-n.was) in
    sym (length-take-le _ _ w.within)

pub same_block-requires : goal.same_block-requires
same_block-requires c =
    let l = c.args.link in
    let s = c.args.parts.now in
    let w = written_line (table_of l.code) l.method l.parity s.shape s.end s.header.now s.text.now c.args.line.now c.args.out.now _ c.write_block.ensures (value_kept _ c.write_block.result c.map_err.ensures.cases c.in_ok-n.was) in
    (taken_back (table_of l.code) l.method l.parity s.shape s.end s.header.now s.text.now c.args.line.now c.args.out.now w _ c.read_block.ensures (value_kept _ c.read_block.result c.map_err-2.ensures.cases c.in_ok-b.was)).room

pub returns-in_err-b : goal.returns-in_err-b
returns-in_err-b c =
    let l = c.args.link in
    let s = c.args.parts.now in
    let w = written_line (table_of l.code) l.method l.parity s.shape s.end s.header.now s.text.now c.args.line.now c.args.out.now _ c.write_block.ensures (value_kept _ c.write_block.result c.map_err.ensures.cases c.in_ok-n.was) in
    let m = error_mapped _ c.read_block.result c.map_err-2.ensures.cases c.in_err-b.was in
    let p = err_from_is_err_and c.from_residual-in_err-b.result c.from_residual-in_err-b.ensures.1 in
    ap (λ z. returned (of_block_return z) c.write_block.new.out c.read_block.new.out) (p.1 ∙ ap Err (p.2 ∙ m.2))
    ∙ refused_returns (table_of l.code) l.method l.parity s.shape s.end s.header.now s.text.now c.args.line.now c.args.out.now w _ c.read_block.ensures m.1
    (ap (λ z. z.output) c.write_block.ensures)

pub returns : goal.returns
returns c =
    let l = c.args.link in
    let s = c.args.parts.now in
    let w = written_line (table_of l.code) l.method l.parity s.shape s.end s.header.now s.text.now c.args.line.now c.args.out.now _ c.write_block.ensures (value_kept _ c.write_block.result c.map_err.ensures.cases c.in_ok-n.was) in
    taken_returns (table_of l.code) l.method l.parity s.shape s.end s.header.now s.text.now c.args.line.now c.args.out.now w _ c.read_block.ensures (value_kept _ c.read_block.result c.map_err-2.ensures.cases c.in_ok-b.was) c.same_block.ensures.1
    (ap (λ z. z.output) c.write_block.ensures)
