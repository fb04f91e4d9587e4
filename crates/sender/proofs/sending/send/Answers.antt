-- `send` meets its contract: a refusal as it was asked, or what the writer of blocks answers. Assumes nothing.
use Rattle.std.proofs.Common.{◌≤◌, ◌*◌, ◌∙◌, length, get_or, drop, sym, ap, ap₂, arith, length-take}
use Rattle.std.proofs.lemmas.Result.{err_from_is_err_and}
use Rattle.bits.specs.Calls.{Call, called}
use Rattle.block.specs.Answers.{Numbers, refused}
use Rattle.orders.specs.Methods.{method_of}
use Rattle.sender.specs.Ring.{back, bytes_at}
use Rattle.sender.specs.Sending.{method_at}
use Rattle.sender.proofs.Cells.{short_at}
use Rattle.sender.proofs.Passed.{number_passed}
use Rattle.sender.proofs.Lines.{refused-with-6, written_under, send_refused, send_done}
use Rattle.sender.proofs.sending.send.Goals as goal

pub returns-in_err-ask_number : goal.returns-in_err-ask_number
returns-in_err-ask_number c =
    let a = c.args in
    let p = err_from_is_err_and c.from_residual.result c.from_residual.ensures.1 in
    rw (p.1, p.2) (send_refused a.n a.w a.station a.store.now a.number a.out.now (c.in_err-ask_number.ensures))

pub submitted_after-d-requires : goal.submitted_after-d-requires
submitted_after-d-requires c =
    let a = c.args in
    let p = number_passed a.n a.w a.station (length a.store.now) a.number (sym c.in_ok-ask_number.ensures) in
    record { n_most = p.0.right.agreed.n_most; next_below = p.0.right.next_below; number_below = p.1 }

pub stored_bytes-requires : goal.stored_bytes-requires
stored_bytes-requires c =
    let a = c.args in
    let p = number_passed a.n a.w a.station (length a.store.now) a.number (sym c.in_ok-ask_number.ensures) in
    let g = p.0.right in
    record {
      w_most = g.agreed.w_most;
      cell_below = g.cell_below;
      lengths_most = g.lengths_most;
      room = p.0.room;
      few = omega (arith, c.submitted_after-d.ensures, p.2, g.stored_most);
    }

pub method_at-requires : goal.method_at-requires
method_at-requires c =
    let a = c.args in
    (number_passed a.n a.w a.station (length a.store.now) a.number (sym c.in_ok-ask_number.ensures)).0.right.older_most

pub returns-in-Ok : goal.returns-in-Ok
returns-in-Ok c =
    let a = c.args in
    let d = c.submitted_after-d.result in
    send_done a.n a.w a.station a.store.now a.number a.out.now c.in_ok-ask_number.ensures c.submitted_after-d.ensures
    (c.in-Ok.ensures ∙ written_under a.w a.station a.store.now a.out.now d c.stored_bytes.ensures c.method_at.ensures c.link_of.ensures)

pub returns-in-Err : goal.returns-in-Err
returns-in-Err c =
    let a = c.args in
    let d = c.submitted_after-d.result in
    let p = number_passed a.n a.w a.station (length a.store.now) a.number (sym c.in_ok-ask_number.ensures) in
    let short = short_at a.station.lengths (back a.w a.station.cell d) p.0.right.lengths_most in
    let few : length (bytes_at a.w a.station a.store.now d) ≤ 4095 =
    omega (arith, short, length-take (get_or a.station.lengths (back a.w a.station.cell d) 0) (drop (back a.w a.station.cell d * 4096) a.store.now)) in
    let line = c.in-Err.ensures ∙ written_under a.w a.station a.store.now a.out.now d c.stored_bytes.ensures c.method_at.ensures c.link_of.ensures in
    let six = refused-with-6 (method_of (method_at a.station d)) (bytes_at a.w a.station a.store.now d) (length a.out.now) few (ap (λ (x : Call Numbers). x.answer) line) in
    send_done a.n a.w a.station a.store.now a.number a.out.now c.in_ok-ask_number.ensures c.submitted_after-d.ensures
    (ap₂ (λ k v. called (refused k v) c.write_block.new.out) (sym six) c.value_of.ensures ∙ line)
