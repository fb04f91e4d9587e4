-- `replay_panel` meets its contract: a refusal as it was asked, or the end of the replay. Assumes nothing.
use Rattle.std.proofs.lemmas.Result.{err_from_is_err_and}
use Rattle.replay.proofs.Answering.{panel_refused, panel_done}
use Rattle.replay.proofs.calls.replay_panel.Goals as goal

pub returns-in_err-ask_trace : goal.returns-in_err-ask_trace
returns-in_err-ask_trace c =
    let a = c.args in
    let p = err_from_is_err_and c.from_residual.result c.from_residual.ensures.1 in
    rw (p.1, p.2) (panel_refused a.n a.w a.trace.now a.store.now c.in_err-ask_trace.ensures)

pub returns : goal.returns
returns c =
    let a = c.args in
    panel_done a.n a.w a.trace.now a.store.now c.in_ok-ask_trace.ensures c.replay.ensures
