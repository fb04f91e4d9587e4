-- `sent16` meets its contract: the bytes of a number, the low one first, are its bits packed. Assumes nothing.
use mathlib.Core.Path.{sym, ◌∙◌}
use Rattle.bits.proofs.Packing.{le_bytes, pack-low_bits}
use Rattle.registers.proofs.sent16.Goals as goal

pub returns : goal.returns
returns c = c.to_le_bytes.ensures ∙ le_bytes 2 c.args.check ∙ sym (pack-low_bits 2 c.args.check)
