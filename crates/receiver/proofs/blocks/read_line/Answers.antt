-- `read_line` meets its contract: as the reader of blocks answers. Assumes nothing.
use Rattle.std.proofs.Common.{length, ap, ◌∙◌}
use Rattle.bits.specs.Calls.{called}
use Rattle.orders.specs.Methods.{link_of}
use Rattle.receiver.specs.Receiver.{awaiting, read_under, Outcome}
use Rattle.receiver.specs.Answers.{TellNumbers}
use Rattle.receiver.proofs.Telling.{line_read, line_taken, line_refused}
use Rattle.receiver.proofs.blocks.read_line.Goals as goal

pub returns-in-Ok : goal.returns-in-Ok
returns-in-Ok c =
    let a = c.args in
    let r = a.receiver in
    line_taken r a.out.now c.read_block.new.out (read_under (link_of r.method) a.line.now (length a.out.now))
    (line_read r a.line.now a.out.now c.read_block.new.out c.link_of.ensures c.in-Ok.ensures)
    (c.awaiting.ensures ∙ ap (λ k. awaiting r k r.waiting r.number) c.requires.moved)

pub returns-in-Err : goal.returns-in-Err
returns-in-Err c =
    let a = c.args in
    let r = a.receiver in
    ap (λ (o : Outcome TellNumbers). called o c.read_block.new.out) c.unmoved.ensures
    ∙ line_refused r a.out.now c.read_block.new.out (read_under (link_of r.method) a.line.now (length a.out.now))
    (line_read r a.line.now a.out.now c.read_block.new.out c.link_of.ensures c.in-Err.ensures)
