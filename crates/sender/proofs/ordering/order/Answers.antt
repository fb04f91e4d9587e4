-- `order` meets its contract: a refusal as it was asked, or the record under the new method. Assumes nothing.
use Rattle.sender.proofs.Answering.{order_refused, order_done}
use Rattle.sender.proofs.ordering.order.Goals as goal

pub returns-in-Err : goal.returns-in-Err
returns-in-Err c =
    let a = c.args in
    order_refused a.n a.w a.station a.method c.refused.ensures c.in-Err.ensures

pub returns-in-Ok : goal.returns-in-Ok
returns-in-Ok c =
    let a = c.args in
    order_done a.n a.w a.station a.method c.in-Ok.ensures c.with_method.ensures
