-- `row_right` meets its contract: the first byte, or none. Assumes nothing.
use Rattle.std.proofs.Common.{take, ap, ◌∙◌}
use Rattle.bits.specs.Strings.{same}
use Rattle.bits.specs.Bytes.{low_bits, bits_of}
use Rattle.block_check.proofs.Rows.{none_received, row_received}
use Rattle.block_check.proofs.sent.row_right.Goals as goal

pub returns-in-empty : goal.returns-in-empty
returns-in-empty c = none_received c.args.received.now _ c.in-empty.len_below

pub returns-in-len1-up : goal.returns-in-len1-up
returns-in-len1-up c =
    let received = c.args.received.now in
    row_received received c.with_parity.result c.in-len1-up.len_at_least (c.type_inv.received 0).fits c.with_parity.type_inv
    ∙ ap (λ b. same (take 8 (bits_of received)) (low_bits 8 b)) c.with_parity.ensures
