-- `passes` meets its contract: what is none of the seven signs, and low where it has to be, is data. Assumes nothing.
use Rattle.block.specs.Signs.{koi7}
use Rattle.block_scan.proofs.Bytes.{plain_byte}
use Rattle.block_scan.proofs.plain.PlainByteByteTest.passes.Goals as goal

pub returns : goal.returns
returns c = plain_byte koi7 c.args.self.seven c.args.self.low c.args.b c.is_no_sign.ensures c.character.ensures
