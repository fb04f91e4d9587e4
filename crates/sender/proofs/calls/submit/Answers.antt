-- `submit` meets its contract: a refusal as it was asked, or the block in its cell. Assumes nothing.
use Rattle.std.proofs.Common.{length, sym, ap, ◌∙◌, arith}
use lib.Seq.{sets}
use Rattle.sender.proofs.Passed.{submission_passed}
use Rattle.sender.proofs.Answering.{copied, submit_refused, submit_done}
use Rattle.sender.proofs.calls.submit.Goals as goal

pub returns-in-Err : goal.returns-in-Err
returns-in-Err c =
    let a = c.args in
    submit_refused a.n a.w a.station a.store.now a.block.now c.refused.ensures c.in-Err.ensures

pub slice_bounds-copy_from_slice-end : goal.slice_bounds-copy_from_slice-end
slice_bounds-copy_from_slice-end c =
    let a = c.args in
    let p = submission_passed a.n a.w a.station (length a.store.now) (length a.block.now) (sym c.in-Ok.ensures) in
    omega (arith, c.cell_start-start.ensures, p.0.right.cell_below, p.0.room, p.1)

pub overflow_cast-block : goal.overflow_cast-block
overflow_cast-block c =
    let a = c.args in
    omega (arith, (submission_passed a.n a.w a.station (length a.store.now) (length a.block.now) (sym c.in-Ok.ensures)).1)

pub stored-requires : goal.stored-requires
stored-requires c =
    let a = c.args in
    let p = submission_passed a.n a.w a.station (length a.store.now) (length a.block.now) (sym c.in-Ok.ensures) in
    record { right = p.0.right; room = p.2 }

pub returns-in-Ok : goal.returns-in-Ok
returns-in-Ok c =
    let a = c.args in
    let p = submission_passed a.n a.w a.station (length a.store.now) (length a.block.now) (sym c.in-Ok.ensures) in
    submit_done a.n a.w a.station a.store.now a.block.now c.in-Ok.ensures c.stored.ensures
    (copied c.cell_start-start.result a.block.now a.store.now c.copy_from_slice.new.self (omega (arith, c.cell_start-start.ensures, p.0.right.cell_below, p.0.room, p.1)) (omega arith) c.copy_from_slice.ensures.after
    ∙ ap (λ k. sets a.store.now k a.block.now) c.cell_start-start.ensures)
