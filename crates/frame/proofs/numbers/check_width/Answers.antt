-- `check_width` meets its contract: the types of the checks name the widths of the methods. Assumes nothing.
use mathlib.Core.Path.{sym}
use Rattle.cyclic.proofs.Methods.{width_5, width_6}
use Rattle.frame.proofs.numbers.check_width.Goals as goal

pub returns-in-Cyclic16 : goal.returns-in-Cyclic16
returns-in-Cyclic16 c = rw c.in-Cyclic16.is (sym width_5.generator.width)

pub returns-in-Cyclic32 : goal.returns-in-Cyclic32
returns-in-Cyclic32 c = rw c.in-Cyclic32.is (sym width_6.generator.width)
