-- `check_of` meets its contract: the first bytes of a number are those of its low bits. Assumes nothing.
use Rattle.std.proofs.Common.{arith}
use Rattle.bits.specs.Bytes.{bits_of}
use Rattle.fixed_polynomials.specs.Polynomials.{degree8, degree16, degree24}
use Rattle.fixed_polynomials.proofs.Polynomials.{widths}
use Rattle.fixed_block.specs.Block.{parameters}
use Rattle.fixed_block.proofs.Sent.{check_sent}
use Rattle.fixed_block.proofs.check.check_of.Goals as goal

pub returns-in-Degree8 : goal.returns-in-Degree8
unfolding parameters
returns-in-Degree8 c =
    rw c.in-Degree8.is
    (check_sent 1 degree8 widths.degree_8 (omega arith) c.check_of.result (bits_of c.args.content.now) c.sent32.ensures c.check_of.ensures)

pub returns-in-Degree16 : goal.returns-in-Degree16
unfolding parameters
returns-in-Degree16 c =
    rw c.in-Degree16.is
    (check_sent 2 degree16 widths.degree_16 (omega arith) c.check_of-in-Degree16.result (bits_of c.args.content.now) c.sent32-in-Degree16.ensures c.check_of-in-Degree16.ensures)

pub returns-in-Degree24 : goal.returns-in-Degree24
unfolding parameters
returns-in-Degree24 c =
    rw c.in-Degree24.is
    (check_sent 3 degree24 widths.degree_24 (omega arith) c.check_of-in-Degree24.result (bits_of c.args.content.now) c.sent32-in-Degree24.ensures c.check_of-in-Degree24.ensures)
