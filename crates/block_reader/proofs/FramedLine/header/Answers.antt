-- `header` meets its contract: the segment keeps the bytes that were counted. Assumes nothing.
use Rattle.block.specs.Signs.{table_of}
use Rattle.block.specs.Characters.{is_seven}
use Rattle.block_reader.proofs.PartLaws.{header_is}
use Rattle.block_reader.proofs.FramedLine.header.Goals as goal

pub returns : goal.returns
returns c =
    let x = c.args.self.now in
    header_is (table_of x.link.code) (is_seven x.link.method) x.segments x.line.now x.ordered x.counts_kept
