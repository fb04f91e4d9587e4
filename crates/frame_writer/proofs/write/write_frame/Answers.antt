-- `write_frame` meets its contract: the tests are questions 66, 21 and 22, and the bytes of the check carry the rule's check.
-- Assumes nothing.
use native.Mathlib.Omega.{arith}
use Rattle.cyclic.specs.Check.{method5, method6}
use Rattle.frame.specs.Frame.{parameters_of}
use Rattle.frame.proofs.Sizes.{sizes}
use Rattle.frame_writer.proofs.Written.{length-sent, not_lent, no_content, too_long, within_limit}
use Rattle.frame_writer.proofs.write.write_frame.Goals as goal

pub returns-then-div_ceil-lent : goal.returns-then-div_ceil-lent
returns-then-div_ceil-lent c =
    let a = c.args in
    not_lent (parameters_of a.method) a.bits a.lent.now a.out.now (omega arith)

pub returns-then-bits-eq0 : goal.returns-then-bits-eq0
returns-then-bits-eq0 c =
    let a = c.args in
    no_content (parameters_of a.method) a.bits a.lent.now a.out.now (omega arith) c.if-bits-eq0.true

pub returns-then-bits-limit_bits : goal.returns-then-bits-limit_bits
returns-then-bits-limit_bits c =
    let a = c.args in
    too_long (parameters_of a.method) a.bits a.lent.now a.out.now (omega arith) (omega (arith, c.if-bits-eq0.false)) (omega arith)

pub new-content-requires : goal.new-content-requires
new-content-requires c = (omega arith, omega (arith, c.if-bits-limit_bits.false, c.limit_bits.ensures, (sizes c.args.method).limit_small))

pub invariant_of-write : goal.invariant_of-write
invariant_of-write c = record { check_small = omega (arith, length-sent 2 c.check_16.result c.sent16.ensures) }

pub invariant_of-write-in-Cyclic32 : goal.invariant_of-write-in-Cyclic32
invariant_of-write-in-Cyclic32 c = record { check_small = omega (arith, length-sent 4 c.check_32.result c.sent32.ensures) }

pub returns-in-Cyclic16 : goal.returns-in-Cyclic16
returns-in-Cyclic16 c =
    let a = c.args in
    let e = c.in-Cyclic16.is in
    let l = rw e at c.limit_bits.ensures in
    rw e
    (within_limit method5 a.bits a.lent.now a.out.now (omega arith) (omega (arith, c.if-bits-eq0.false)) 2 c.check_16.result (omega arith) c.new-content.ensures c.check_16.ensures c.sent16.ensures
    c.write.ensures)

pub returns-in-Cyclic32 : goal.returns-in-Cyclic32
returns-in-Cyclic32 c =
    let a = c.args in
    let e = c.in-Cyclic32.is in
    let l = rw e at c.limit_bits.ensures in
    rw e
    (within_limit method6 a.bits a.lent.now a.out.now (omega arith) (omega (arith, c.if-bits-eq0.false)) 4 c.check_32.result (omega arith) c.new-content.ensures c.check_32.ensures c.sent32.ensures
    c.write-in-Cyclic32.ensures)
