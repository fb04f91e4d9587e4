-- `write_line` meets its contract, with and without room. Assumes nothing.
use Rattle.block.specs.Lent.{line_of_parts}
use Rattle.block_writer.proofs.Writing.{room_short, room_enough}
use Rattle.block_writer.proofs.ShortParts.write_line.Goals as goal

pub returns-then-needed-out : goal.returns-then-needed-out
returns-then-needed-out c =
    let a = c.args in
    room_short (line_of_parts a.link a.self.parts.now) a.out.now (c.line_length-needed.ensures) c.if-needed-out.true

pub returns : goal.returns
returns c =
    let a = c.args in
    room_enough (line_of_parts a.link a.self.parts.now) a.out.now (c.line_length-needed.ensures) c.if-needed-out.false
    c.put_line.ensures
