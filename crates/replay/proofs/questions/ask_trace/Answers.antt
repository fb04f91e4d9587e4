-- `ask_trace` meets its contract: 41, 51 and 6 of a fresh station, then 61 and 62. Assumes nothing.
use Rattle.std.proofs.Common.{arith}
use Rattle.std.proofs.lemmas.Result.{err_from_is_err_and}
use Rattle.replay.proofs.Asking.{refused_station, no_whole_records, whole_records}
use Rattle.replay.proofs.questions.ask_trace.Goals as goal

pub returns-in_err-ask_store : goal.returns-in_err-ask_store
returns-in_err-ask_store c =
    let a = c.args in
    let p = err_from_is_err_and c.from_residual.result c.from_residual.ensures.1 in
    rw (p.1, p.2) (refused_station a.n a.w a.size a.trace.now c.fresh.ensures c.in_err-ask_store.ensures)

pub returns-then-trace-ne0 : goal.returns-then-trace-ne0
returns-then-trace-ne0 c =
    let a = c.args in
    no_whole_records a.n a.w a.size a.trace.now c.fresh.ensures c.in_ok-ask_store.ensures (omega arith)

pub returns : goal.returns
returns c =
    let a = c.args in
    whole_records a.n a.w a.size a.trace.now c.fresh.ensures c.in_ok-ask_store.ensures (omega arith) c.ask_events.ensures
