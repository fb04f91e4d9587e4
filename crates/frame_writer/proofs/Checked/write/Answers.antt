-- `write` meets its contract: where the output is longer than any frame of the content no zero is counted, else the test of the room is question 23. Assumes nothing.
use native.Mathlib.Omega.{arith}
use Rattle.frame.specs.Frame.{enclose}
use Rattle.frame_writer.specs.Steps.{checked}
use Rattle.frame_writer.proofs.Written.{frame_le, room_short, room_enough}
use Rattle.frame_writer.proofs.Checked.write.Goals as goal

pub put-requires : goal.put-requires
put-requires c = omega (arith, c.args.self.check_small, c.if-most-out.true, frame_le c.args.self)

pub returns-then-most-out : goal.returns-then-most-out
returns-then-most-out c =
    let p = c.put in
    let h = frame_le c.args.self in
    room_enough (enclose (checked c.args.self)) c.args.out.now (omega (arith, c.args.self.check_small, c.if-most-out.true)) p.ensures

pub returns-then-needed-out : goal.returns-then-needed-out
returns-then-needed-out c = room_short (enclose (checked c.args.self)) c.args.out.now c.frame_bytes-needed.ensures c.if-needed-out.true

pub returns : goal.returns
returns c =
    let p = c.put-2 in
    room_enough (enclose (checked c.args.self)) c.args.out.now (omega (arith, c.frame_bytes-needed.ensures, c.if-needed-out.false)) p.ensures
