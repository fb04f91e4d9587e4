-- `after_bits` meets its contract: the bits end in the byte, in the next one or in that behind it. Assumes nothing.
use native.Mathlib.Omega.{arith}
use Rattle.frame_writer.proofs.Stepping.{moved}
use Rattle.frame_writer.proofs.Position.after_bits.Goals as goal

pub returns-then-place-ge16 : goal.returns-then-place-ge16
returns-then-place-ge16 c = moved c.args.self _ c.args.n (omega (arith, c.if-place-ge16.true))

pub returns-then-place-ge8 : goal.returns-then-place-ge8
returns-then-place-ge8 c = moved c.args.self _ c.args.n (omega (arith, c.if-place-ge8.true))

pub returns : goal.returns
returns c = moved c.args.self _ c.args.n (omega arith)
