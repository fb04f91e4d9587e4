-- `put_flag` meets its contract: the flag behind what the writer holds, in one byte or in two. Assumes nothing.
use mathlib.Core.Path.{refl}
use Rattle.frame_writer.proofs.Written.{flag_in_one, flag_in_two}
use Rattle.frame_writer.proofs.BitWriter.put_flag.Goals as goal

pub returns-then-at-eq0 : goal.returns-then-at-eq0
returns-then-at-eq0 c = (c.after_byte.ensures, flag_in_one c.args.out.now c.args.self refl c.if-at-eq0.true)

pub returns : goal.returns
returns c = (c.after_byte-2.ensures, flag_in_two c.args.out.now c.args.self refl refl c.if-at-eq0.false)
