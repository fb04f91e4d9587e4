-- `count_byte` meets its contract: the zeros are those of the byte. Assumes nothing.
use native.Mathlib.Omega.{arith}
use Rattle.frame_writer.proofs.Writers.{count_sent}
use Rattle.frame_writer.proofs.BitCount.count_byte.Goals as goal

pub after_sent-requires : goal.after_sent-requires
after_sent-requires c =
    let k = c.stuff_byte-sent.ensures c.args.self.before_small in
    (omega (arith, k.few), k.before_small, c.requires)

pub returns : goal.returns
returns c = count_sent 8 c.args.byte (c.stuff_byte-sent.ensures c.args.self.before_small) c.after_sent.ensures
