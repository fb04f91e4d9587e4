-- `walk` meets its contract: the pass has the table and the start of the method. Assumes nothing.
use lib.Seq.{slice}
use native.Mathlib.Omega.{arith}
use Rattle.bits.specs.Bytes.{bits_of}
use Rattle.cyclic.specs.Check.{method5, method6}
use Rattle.cyclic.proofs.Methods.{width_5, width_6, began}
use Rattle.frame.specs.Stuffing.{unstuff}
use Rattle.frame_walk.proofs.Register.{walked}
use Rattle.frame_walk.proofs.Line.walk.Goals as goal

pub returns-in-Cyclic16 : goal.returns-in-Cyclic16
unfolding method5
returns-in-Cyclic16 c =
    let a = c.args in
    rw c.in-Cyclic16.is
    (walked 8 method5 width_5 (began c.new.ensures.constants) (omega arith) c.ccitt16.ensures a.self.end (unstuff 0 8 (slice 8 a.self.end (bits_of a.self.lent.now))) c.pass.ensures)

pub returns-in-Cyclic32 : goal.returns-in-Cyclic32
unfolding method6
returns-in-Cyclic32 c =
    let a = c.args in
    rw c.in-Cyclic32.is
    (walked 24 method6 width_6 (began c.new-in-Cyclic32.ensures.constants) (omega arith) c.ieee32.ensures a.self.end (unstuff 0 8 (slice 8 a.self.end (bits_of a.self.lent.now))) c.pass-in-Cyclic32.ensures)
