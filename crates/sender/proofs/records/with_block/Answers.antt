-- `with_block` meets its contract: a step on each ring, and the length in its cell. Assumes nothing.
use Rattle.std.proofs.Common.{◌+◌, ◌%◌, ap, ◌∙◌}
use Rattle.sender.proofs.records.with_block.Goals as goal

pub returns : goal.returns
returns c =
    let s = c.args.station in
    rw (c.next.ensures ∙ ap (λ m. (s.next + 1) % m) c.modulus.ensures, c.next-2.ensures)
