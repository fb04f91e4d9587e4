-- `tell_order` meets its contract: a refusal as it was judged, 67, or the order noted. Assumes nothing.
use Rattle.std.proofs.Common.{◌≡◌, ◌∙◌, ap, ne_eqb, eq-eqb}
use Rattle.number.specs.Number as number
use Rattle.receiver.specs.declared.Receiver.{Receiver}
use Rattle.receiver.specs.Receiver.{awaiting, noted, noting}
use Rattle.receiver.specs.Answers.{order_outcome}
use Rattle.receiver.proofs.Telling.{verdict_judged, order_refused, order_judged}
use Rattle.receiver.proofs.orders_told.tell_order.Goals as goal

pub returns-then-receiver-ne0 : goal.returns-then-receiver-ne0
returns-then-receiver-ne0 c =
    let a = c.args in
    let held : order_outcome c.refused.result ≡ noting a.receiver a.number a.method =
    rw (ne_eqb a.receiver.waiting 0 c.if-receiver-ne0.true) c.refused.ensures in
    held ∙ order_judged a.receiver a.number a.method c.in-Ok.field-0.verdict (verdict_judged a.receiver a.number c.in-Ok.field-0 c.in-Ok.ensures)

pub returns-else-receiver-ne0 : goal.returns-else-receiver-ne0
returns-else-receiver-ne0 c =
    let a = c.args in
    let after = c.awaiting.ensures ∙ ap (λ byte. awaiting a.receiver a.receiver.c byte a.number) c.byte_of.ensures in
    let noted_so : record { answer = noted; receiver = c.awaiting.result } ≡ noting a.receiver a.number a.method =
    rw (eq-eqb a.receiver.waiting 0 c.if-receiver-ne0.false) (ap (λ (r : Receiver). record { answer = noted; receiver = r }) after) in
    noted_so ∙ order_judged a.receiver a.number a.method c.in-Ok.field-0.verdict (verdict_judged a.receiver a.number c.in-Ok.field-0 c.in-Ok.ensures)

pub returns-in-Err : goal.returns-in-Err
returns-in-Err c =
    let a = c.args in
    order_refused a.receiver a.number a.method (ap (λ (o : number.Outcome). o.verdict) c.in-Err.ensures) c.refused-in-Err.ensures
