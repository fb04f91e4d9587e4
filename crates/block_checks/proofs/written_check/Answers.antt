-- `written_check` meets its contract: the number of the counted bytes stands for their check. Assumes nothing.
use Rattle.std.proofs.Common.{ap, ◌∙◌}
use Rattle.bits.specs.Bytes.{pack}
use Rattle.block.specs.Signs.{table_of}
use Rattle.block_check.specs.Numbers.{check_from}
use Rattle.block_check.proofs.NumberLaws.{check-after}
use Rattle.block_checks.specs.Checked.{checked_bytes}
use Rattle.block_checks.proofs.Checks.{check_sent}
use Rattle.block_checks.proofs.written_check.Goals as goal

pub returns : goal.returns
returns c =
    let m = c.args.link.method in
    let p = c.args.link.parity in
    let s = c.args.parts.now in
    let checked = checked_bytes (table_of c.args.link.code) s.shape s.end s.header.now s.text.now in
    c.check_from.ensures
    ∙ ap pack
    (ap (check_from m p) c.written_number.ensures ∙ check-after m p checked
    ∙ check_sent (table_of c.args.link.code) m p s.shape s.end s.header.now s.text.now)
