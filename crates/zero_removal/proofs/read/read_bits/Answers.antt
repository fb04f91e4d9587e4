-- `read_bits` meets its contract: eight bits make a byte, and fewer stay pending. Assumes nothing.
use Rattle.zero_removal.proofs.Reader.{read_whole, read_part}
use Rattle.zero_removal.proofs.read.read_bits.Goals as goal

pub returns-then-got-r : goal.returns-then-got-r
returns-then-got-r c byte f e =
    let a = c.args in
    read_whole a.r f byte a.got e c.if-got-r.true

pub returns : goal.returns
returns c byte f e =
    let a = c.args in
    read_part a.r f byte a.got e c.if-got-r.false
