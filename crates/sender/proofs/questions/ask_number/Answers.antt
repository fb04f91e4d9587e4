-- `ask_number` meets its contract: 41, 51 and 6, then 56. Assumes nothing.
use Rattle.std.proofs.Common.{arith}
use Rattle.std.proofs.lemmas.Result.{err_from_is_err_and}
use Rattle.sender.specs.Sender.{clear, of_number}
use Rattle.sender.proofs.Passed.{right_behind}
use Rattle.sender.proofs.Asking.{number_over, number_freed, number_stored}
use Rattle.sender.proofs.questions.ask_number.Goals as goal

pub returns-in_err-ask_store : goal.returns-in_err-ask_store
unfolding of_number
returns-in_err-ask_store c =
    let p = err_from_is_err_and c.from_residual.result c.from_residual.ensures.1 in
    rw (p.1, p.2) (c.in_err-ask_store.ensures _)

pub modulus-requires : goal.modulus-requires
modulus-requires c =
    let a = c.args in
    (right_behind a.n a.w a.station a.size (c.in_ok-ask_store.ensures clear)).agreed.n_most

pub returns-then-modulus-number : goal.returns-then-modulus-number
returns-then-modulus-number c =
    let a = c.args in
    number_over a.n a.w a.station a.size c.in_ok-ask_store.ensures a.number (omega arith)

pub submitted_after-requires : goal.submitted_after-requires
submitted_after-requires c =
    let a = c.args in
    let z = right_behind a.n a.w a.station a.size (c.in_ok-ask_store.ensures clear) in
    record { n_most = z.agreed.n_most; next_below = z.next_below; number_below = omega arith }

pub returns-then-station-submitted_after : goal.returns-then-station-submitted_after
returns-then-station-submitted_after c =
    let a = c.args in
    number_freed a.n a.w a.station a.size c.in_ok-ask_store.ensures a.number (omega arith) (omega arith)

pub returns : goal.returns
returns c =
    let a = c.args in
    number_stored a.n a.w a.station a.size c.in_ok-ask_store.ensures a.number (omega arith) (omega arith)
