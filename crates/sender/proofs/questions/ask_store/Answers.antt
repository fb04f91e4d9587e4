-- `ask_store` meets its contract: 41 and 51, then 6. Assumes nothing.
use Rattle.std.proofs.lemmas.Result.{err_from_is_err_and}
use Rattle.sender.proofs.Asking.{store_short, store_enough}
use Rattle.sender.specs.Sender.{of_store}
use Rattle.sender.proofs.questions.ask_store.Goals as goal

pub returns-in_err-ask_record : goal.returns-in_err-ask_record
returns-in_err-ask_record c next =
    let p = err_from_is_err_and c.from_residual.result c.from_residual.ensures.1 in
    rw (p.1, p.2) (c.in_err-ask_record.ensures (of_store c.args.w c.args.size next))

pub returns-then-size-needed : goal.returns-then-size-needed
returns-then-size-needed c next =
    let a = c.args in
    store_short a.n a.w a.station a.size c.in_ok-ask_record.ensures next c.if-size-needed.true

pub returns : goal.returns
returns c next =
    let a = c.args in
    store_enough a.n a.w a.station a.size c.in_ok-ask_record.ensures next c.if-size-needed.false
