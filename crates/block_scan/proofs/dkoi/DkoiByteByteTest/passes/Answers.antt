-- `passes` meets its contract: the place in KOI-7 has the sign of the character. Assumes nothing.
use mathlib.Core.Path.{ap, ◌∙◌}
use Rattle.block.specs.Signs.{dkoi}
use Rattle.block.specs.Write.{is_other}
use Rattle.block_scan.proofs.Bytes.{plain_byte}
use Rattle.block_scan.proofs.dkoi.DkoiByteByteTest.passes.Goals as goal

pub returns : goal.returns
returns c = plain_byte dkoi c.args.self.seven c.args.self.low c.args.b (c.is_no_sign.ensures ∙ ap is_other c.in_koi7.ensures) c.character.ensures
