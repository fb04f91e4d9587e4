-- `after_sent` meets its contract: the byte moves by one or by two. Assumes nothing.
use mathlib.Core.Path.{ap, ◌∙◌}
use Prim.Native.Nat.{◌+◌}
use native.Mathlib.Omega.{arith}
use Rattle.frame_writer.specs.Stepping.{pair, stepped}
use Rattle.frame_writer.proofs.Stepping.{moved}
use Rattle.frame_writer.proofs.Position.after_sent.Goals as goal

pub returns-then-zeros-eq0 : goal.returns-then-zeros-eq0
returns-then-zeros-eq0 c = c.after_byte.ensures ∙ ap (λ n. stepped n (pair c.args.self)) (omega (arith, c.if-zeros-eq0.true))

pub returns-then-place-lt8 : goal.returns-then-place-lt8
returns-then-place-lt8 c = moved c.args.self _ (8 + c.args.zeros) (omega arith)

pub returns : goal.returns
returns c = moved c.args.self _ (8 + c.args.zeros) (omega (arith, c.if-place-lt8.false))
