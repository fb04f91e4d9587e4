-- `replay_service` meets its contract: what the panel's reader is answered, and the notes. Assumes nothing.
use Rattle.std.proofs.Common.{refl}
use Rattle.std.proofs.lemmas.Result.{err_from_is_err_and}
use Rattle.replay.specs.Replay.{last_notes}
use Rattle.replay.proofs.Answering.{noted, noted_call, noted_answer}
use Rattle.replay.proofs.calls.replay_service.Goals as goal

pub returns-in_err-reading : goal.returns-in_err-reading
unfolding noted noted_call
returns-in_err-reading c =
    let a = c.args in
    let p = err_from_is_err_and c.from_residual.result c.from_residual.ensures.1 in
    rw (p.1, p.2) (noted_answer a.n a.w a.trace.now a.store.now (last_notes a.trace.now) refl c.in_err-reading.ensures)

pub returns : goal.returns
unfolding noted noted_call
returns c =
    let a = c.args in
    noted_answer a.n a.w a.trace.now a.store.now c.last_notes.result c.last_notes.ensures c.in_ok-reading.ensures
