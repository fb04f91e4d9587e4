-- `submit_zeros` meets its contract: a refusal as it was asked, or zeros in the cell. Assumes nothing.
use Rattle.std.proofs.Common.{◌≡◌, ℕ, List, ◌≤◌, ◌+◌, ◌-◌, length, take, drop, replicate, sym, ap, ◌∙◌, arith, length-drop}
use Rattle.std.proofs.lemmas.List.{length-replicate}
use lib.Seq.{sets, length-take-le}
use Rattle.sender.proofs.Passed.{submission_passed}
use Rattle.sender.proofs.Answering.{copied, submit_refused, submit_done}
use Rattle.sender.proofs.calls.submit_zeros.Goals as goal

pub returns-in-Err : goal.returns-in-Err
returns-in-Err c =
    let a = c.args in
    submit_refused a.n a.w a.station a.store.now (replicate a.len 0) c.refused.ensures (rw length-replicate c.in-Err.ensures)

pub overflow_add-start : goal.overflow_add-start
overflow_add-start c =
    let a = c.args in
    let p = submission_passed a.n a.w a.station (length a.store.now) a.len (sym c.in-Ok.ensures) in
    omega (arith, c.cell_start-start.ensures, p.0.right.cell_below, p.0.right.agreed.w_most, p.1)

pub slice_bounds-fill-end : goal.slice_bounds-fill-end
slice_bounds-fill-end c =
    let a = c.args in
    let p = submission_passed a.n a.w a.station (length a.store.now) a.len (sym c.in-Ok.ensures) in
    omega (arith, c.cell_start-start.ensures, p.0.right.cell_below, p.0.room, p.1)

pub overflow_cast-len : goal.overflow_cast-len
overflow_cast-len c =
    let a = c.args in
    omega (arith, (submission_passed a.n a.w a.station (length a.store.now) a.len (sym c.in-Ok.ensures)).1)

pub stored-requires : goal.stored-requires
stored-requires c =
    let a = c.args in
    let p = submission_passed a.n a.w a.station (length a.store.now) a.len (sym c.in-Ok.ensures) in
    record { right = p.0.right; room = p.2 }

pub returns-in-Ok : goal.returns-in-Ok
returns-in-Ok c =
    let a = c.args in
    let at = c.cell_start-start.result in
    let zeros : List ℕ = replicate a.len 0 in
    let l : length zeros ≡ a.len = length-replicate a.len 0 in
    let p = submission_passed a.n a.w a.station (length a.store.now) a.len (sym c.in-Ok.ensures) in
    let fits : at + a.len ≤ length a.store.now = omega (arith, c.cell_start-start.ensures, p.0.right.cell_below, p.0.room, p.1) in
    let whole : at + a.len - at ≡ a.len = omega arith in
    let room : length (drop at a.store.now) ≡ length a.store.now - at = length-drop at a.store.now in
    let size : length (take (at + a.len - at) (drop at a.store.now)) ≡ a.len =
    length-take-le (at + a.len - at) (drop at a.store.now) (omega arith) ∙ whole in
    submit_done a.n a.w a.station a.store.now zeros (rw length-replicate c.in-Ok.ensures) (rw length-replicate c.stored.ensures)
    (copied at zeros a.store.now c.fill.new.self (omega arith) (whole ∙ sym l) (c.fill.ensures.after (λ y e. e) ∙ ap (λ k. replicate k 0) size)
    ∙ ap (λ k. sets a.store.now k zeros) c.cell_start-start.ensures)
