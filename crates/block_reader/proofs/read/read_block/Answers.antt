-- `read_block` meets its contract: a refusal of the walk, or a framing that is read on. Assumes nothing.
use Rattle.std.proofs.lemmas.Result.{err_from_is_err_and}
use Rattle.block.specs.Signs.{table_of}
use Rattle.block_reader.proofs.ReadBlock.{walk_found, no_framing}
use Rattle.block_reader.proofs.read.read_block.Goals as goal

pub read_framed-requires : goal.read_framed-requires
read_framed-requires c = walk_found c.find_framing.ensures c.in_ok-f.was

pub returns-in_err-f : goal.returns-in_err-f
returns-in_err-f c =
    let l = c.args.link in
    let p = err_from_is_err_and c.from_residual.result c.from_residual.ensures.1 in
    rw (p.1, p.2) (no_framing (table_of l.code) l.method l.parity c.args.line.now c.args.out.now c.find_framing.ensures c.in_err-f.was)

pub shape_of-out : goal.shape_of-out
shape_of-out c = c.read_framed.auto.out

pub returns : goal.returns
returns c = c.read_framed.ensures
