-- `count_bits` meets its contract: the zeros are those of the bits. Assumes nothing.
use native.Mathlib.Omega.{arith}
use Rattle.frame_writer.proofs.Writers.{count_sent}
use Rattle.frame_writer.proofs.BitCount.count_bits.Goals as goal

pub overflow_add-bits : goal.overflow_add-bits
overflow_add-bits c = omega (arith, (c.stuff_bits-sent.ensures c.args.self.before_small c.requires.0).few, c.requires.0)

pub after_bits-requires : goal.after_bits-requires
after_bits-requires c =
    let k = c.stuff_bits-sent.ensures c.args.self.before_small c.requires.0 in
    (omega (arith, k.few, c.requires.0), k.before_small, c.requires.1)

pub returns : goal.returns
returns c = count_sent c.args.bits c.args.byte (c.stuff_bits-sent.ensures c.args.self.before_small c.requires.0) c.after_bits.ensures
