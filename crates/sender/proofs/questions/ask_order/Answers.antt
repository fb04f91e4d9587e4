-- `ask_order` meets its contract: 41 and 51, then 67. Assumes nothing.
use Rattle.std.proofs.Common.{arith}
use Rattle.std.proofs.lemmas.Result.{err_from_is_err_and}
use Rattle.sender.specs.Sender.{of_order}
use Rattle.sender.proofs.Asking.{order_pending, order_free}
use Rattle.sender.proofs.questions.ask_order.Goals as goal

pub returns-in_err-ask_record : goal.returns-in_err-ask_record
unfolding of_order
returns-in_err-ask_record c =
    let p = err_from_is_err_and c.from_residual.result c.from_residual.ensures.1 in
    rw (p.1, p.2) (c.in_err-ask_record.ensures _)

pub returns-then-station-ne0 : goal.returns-then-station-ne0
returns-then-station-ne0 c =
    let a = c.args in
    order_pending a.n a.w a.station c.in_ok-ask_record.ensures c.if-station-ne0.true

pub returns : goal.returns
returns c =
    let a = c.args in
    order_free a.n a.w a.station c.in_ok-ask_record.ensures (omega arith)
