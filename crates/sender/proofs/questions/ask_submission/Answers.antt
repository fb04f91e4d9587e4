-- `ask_submission` meets its contract: 41, 51 and 6, then 57 and 55. Assumes nothing.
use Rattle.std.proofs.lemmas.Result.{err_from_is_err_and}
use Rattle.sender.specs.Sender.{of_submission}
use Rattle.sender.proofs.Asking.{block_long, store_full, block_fits}
use Rattle.sender.proofs.questions.ask_submission.Goals as goal

pub returns-in_err-ask_store : goal.returns-in_err-ask_store
unfolding of_submission
returns-in_err-ask_store c =
    let p = err_from_is_err_and c.from_residual.result c.from_residual.ensures.1 in
    rw (p.1, p.2) (c.in_err-ask_store.ensures _)

pub returns-then-len-gt-LONGEST : goal.returns-then-len-gt-LONGEST
returns-then-len-gt-LONGEST c =
    let a = c.args in
    block_long a.n a.w a.station a.size c.in_ok-ask_store.ensures a.len c.if-len-gt-LONGEST.true

pub returns-then-w-station : goal.returns-then-w-station
returns-then-w-station c =
    let a = c.args in
    store_full a.n a.w a.station a.size c.in_ok-ask_store.ensures a.len c.if-len-gt-LONGEST.false c.if-w-station.true

pub returns : goal.returns
returns c =
    let a = c.args in
    block_fits a.n a.w a.station a.size c.in_ok-ask_store.ensures a.len c.if-len-gt-LONGEST.false c.if-w-station.false
