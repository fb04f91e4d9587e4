-- `passes` meets its contract: what is not DLE is data of clear text. Assumes nothing.
use Rattle.block.specs.Signs.{table_of}
use Rattle.block_scan.proofs.Bytes.{clear_byte}
use Rattle.block_scan.proofs.clear.ClearByteByteTest.passes.Goals as goal

pub returns : goal.returns
returns c = clear_byte (table_of c.args.self.code) c.args.self.seven c.args.b c.character.ensures
