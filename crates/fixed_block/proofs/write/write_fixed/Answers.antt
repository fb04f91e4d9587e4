-- `write_fixed` meets its contract: questions 64, 65 and 6 in turn, then the block. Assumes nothing.
use Rattle.std.proofs.Common.{length, arith}
use Rattle.fixed_block.specs.Block.{parameters, check_length, write_fixed}
use Rattle.fixed_block.proofs.Polynomials.{all_fit, bounds}
use Rattle.fixed_block.proofs.Parts.{length-block}
use Rattle.fixed_block.proofs.Questions.{write-64, write-65, write-6, write-block, refuses, gives}
use Rattle.fixed_block.proofs.write.write_fixed.Goals as goal

pub returns-then-content-lt1 : goal.returns-then-content-lt1
returns-then-content-lt1 c =
    let a = c.args in
    let m = parameters a.polynomial in
    refuses (write_fixed m a.content.now (length a.out.now)) (write-64 m a.content.now (length a.out.now) c.if-content-lt1.true)

pub overflow_sub-limit : goal.overflow_sub-limit
overflow_sub-limit c = omega (arith, c.check_length-k.ensures, c.limit.ensures, (bounds c.args.polynomial).within)

pub returns-then-limit-k : goal.returns-then-limit-k
returns-then-limit-k c =
    let a = c.args in
    let m = parameters a.polynomial in
    refuses (write_fixed m a.content.now (length a.out.now))
    (write-65 m a.content.now (length a.out.now) (omega (arith, c.if-content-lt1.false))
    (omega (arith, c.if-limit-k.true, c.check_length-k.ensures, c.limit.ensures, (bounds a.polynomial).within)))

pub returns-then-out-needed : goal.returns-then-out-needed
returns-then-out-needed c =
    let a = c.args in
    let m = parameters a.polynomial in
    let k = c.check_length-k.ensures in
    rw k
    (refuses (write_fixed m a.content.now (length a.out.now))
    (write-6 m a.content.now (length a.out.now) (omega (arith, c.if-content-lt1.false))
    (omega (arith, c.if-limit-k.false, k, c.limit.ensures, (bounds a.polynomial).within)) (omega (arith, c.if-out-needed.true, k))))

pub returns : goal.returns
returns c =
    let a = c.args in
    let m = parameters a.polynomial in
    let k = c.check_length-k.ensures in
    rw k
    (gives a.out.now (write_fixed m a.content.now (length a.out.now))
    (write-block m a.content.now (length a.out.now) (omega (arith, c.if-content-lt1.false))
    (omega (arith, c.if-limit-k.false, k, c.limit.ensures, (bounds a.polynomial).within)) (omega (arith, c.if-out-needed.false, k)))
    (length-block (check_length m) m (all_fit a.polynomial).width a.content.now) c.put_block.ensures)
