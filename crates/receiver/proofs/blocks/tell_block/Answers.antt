-- `tell_block` meets its contract: by the verdict on the block's number. Assumes nothing.
use Rattle.std.proofs.Common.{ap, ◌∙◌}
use Rattle.bits.specs.Calls.{called}
use Rattle.number.specs.Number as number
use Rattle.receiver.specs.Receiver.{Outcome}
use Rattle.receiver.specs.Answers.{TellNumbers}
use Rattle.receiver.proofs.Telling.{told_as, moved_on, block_judged}
use Rattle.receiver.proofs.blocks.tell_block.Goals as goal

pub read_line-requires : goal.read_line-requires
read_line-requires c = let a = c.args in record { moved = moved_on a.receiver a.number c.in-Ok.judged c.in-Ok.ensures c.in-New.is }

pub returns-in-New : goal.returns-in-New
returns-in-New c =
    let a = c.args in
    c.read_line.ensures ∙ block_judged a.receiver a.number a.line.now a.out.now (told_as a.receiver a.number c.in-Ok.judged c.in-Ok.ensures c.in-New.is)

pub returns-in-Repeat : goal.returns-in-Repeat
returns-in-Repeat c =
    let a = c.args in
    ap (λ (o : Outcome TellNumbers). called o a.out.now) c.unmoved.ensures
    ∙ block_judged a.receiver a.number a.line.now a.out.now (told_as a.receiver a.number c.in-Ok.judged c.in-Ok.ensures c.in-Repeat.is)

pub returns-in-Lost : goal.returns-in-Lost
returns-in-Lost c =
    let a = c.args in
    ap (λ (o : Outcome TellNumbers). called o a.out.now) c.unmoved-in-Lost.ensures
    ∙ block_judged a.receiver a.number a.line.now a.out.now (told_as a.receiver a.number c.in-Ok.judged c.in-Ok.ensures c.in-Lost.is)

pub returns-in-Err : goal.returns-in-Err
returns-in-Err c =
    let a = c.args in
    ap (λ (o : Outcome TellNumbers). called o a.out.now) c.unmoved-in-Err.ensures
    ∙ block_judged a.receiver a.number a.line.now a.out.now (ap (λ (o : number.Outcome). o.verdict) c.in-Err.ensures)
