-- `is_check` meets its contract: the bytes of a slice fit, and a check fills its bytes. Assumes nothing.
use Rattle.std.proofs.Common.{◌∙◌}
use Rattle.block_check.specs.Numbers.{check_from}
use Rattle.block_check.proofs.NumberLaws.{whole_bytes}
use Rattle.bits.proofs.Bytes.{bytes_of}
use Rattle.block_check.proofs.Received.{received}
use Rattle.block_check.proofs.sent.is_check.Goals as goal

pub returns : goal.returns
returns c =
    let m = c.args.link.method in
    let p = c.args.link.parity in
    c.eq.ensures
    ∙ received c.args.received.now c.as_slice.result.now (check_from m p c.args.number)
    (bytes_of c.args.received.now (λ i. (c.shared_slice_known-1.given i).fits)) (whole_bytes m p c.args.number)
    (c.as_slice.ensures ∙ c.check_from.ensures)
