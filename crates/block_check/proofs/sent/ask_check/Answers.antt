-- `ask_check` meets its contract: of a wrong check the row check is asked first. Assumes nothing.
use Rattle.bits.specs.Bytes.{bits_of}
use Rattle.block_check.proofs.Rows.{asked_right, diagonal_wrong, first_wrong}
use Rattle.block_check.proofs.sent.ask_check.Goals as goal

pub returns-then-is_check : goal.returns-then-is_check
returns-then-is_check c =
    let a = c.args in
    asked_right a.link.method a.link.parity a.number (bits_of a.received.now) c.is_check.ensures c.if-is_check.true

pub returns-then-is_diagonal-row_right : goal.returns-then-is_diagonal-row_right
returns-then-is_diagonal-row_right c =
    let a = c.args in
    diagonal_wrong a.link.method a.link.parity a.number (bits_of a.received.now) c.is_check.ensures c.is_diagonal.ensures c.row_right.ensures
    c.if-is_check.false c.if-is_diagonal-row_right.true

pub returns : goal.returns
returns c =
    let a = c.args in
    first_wrong a.link.method a.link.parity a.number (bits_of a.received.now) c.is_check.ensures c.is_diagonal.ensures c.row_right.ensures
    c.if-is_check.false c.if-is_diagonal-row_right.false
