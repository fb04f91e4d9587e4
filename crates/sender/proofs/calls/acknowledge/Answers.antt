-- `acknowledge` meets its contract: a refusal as it was asked, or the blocks that are left. Assumes nothing.
use Rattle.std.proofs.Common.{length, sym, arith}
use Rattle.sender.proofs.Passed.{number_passed}
use Rattle.sender.proofs.Answering.{acknowledge_refused, acknowledge_done}
use Rattle.sender.proofs.calls.acknowledge.Goals as goal

pub returns-in-Err : goal.returns-in-Err
returns-in-Err c =
    let a = c.args in
    acknowledge_refused a.n a.w a.station (length a.store.now) a.number c.refused.ensures c.in-Err.ensures

pub submitted_after-left-requires : goal.submitted_after-left-requires
submitted_after-left-requires c =
    let a = c.args in
    let p = number_passed a.n a.w a.station (length a.store.now) a.number (sym c.in-Ok.ensures) in
    record { n_most = p.0.right.agreed.n_most; next_below = p.0.right.next_below; number_below = p.1 }

pub overflow_sub-result : goal.overflow_sub-result
overflow_sub-result c =
    let a = c.args in
    omega (arith, c.submitted_after-left.ensures, (number_passed a.n a.w a.station (length a.store.now) a.number (sym c.in-Ok.ensures)).2)

pub returns-in-Ok : goal.returns-in-Ok
returns-in-Ok c =
    let a = c.args in
    acknowledge_done a.n a.w a.station (length a.store.now) a.number c.in-Ok.ensures c.submitted_after-left.ensures c.with_latest.ensures

pub with_latest-requires : goal.with_latest-requires
with_latest-requires c =
    let a = c.args in
    omega (arith, c.submitted_after-left.ensures, (number_passed a.n a.w a.station (length a.store.now) a.number (sym c.in-Ok.ensures)).2)
