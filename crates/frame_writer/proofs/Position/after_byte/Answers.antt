-- `after_byte` meets its contract: eight bits move the byte by one. Assumes nothing.
use native.Mathlib.Omega.{arith}
use Rattle.frame_writer.proofs.Stepping.{moved}
use Rattle.frame_writer.proofs.Position.after_byte.Goals as goal

pub returns : goal.returns
returns c = moved c.args.self _ 8 (omega arith)
