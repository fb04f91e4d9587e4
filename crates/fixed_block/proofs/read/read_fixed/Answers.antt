-- `read_fixed` meets its contract: questions 64, 65, 18 and 19 in turn, then the content. Assumes nothing.
use Rattle.std.proofs.Common.{◌-◌, length, arith, ap, sym, ◌∙◌, ◌++◌, drop}
use Rattle.fixed_block.specs.Block.{parameters, check_length, read_fixed}
use Rattle.fixed_block.proofs.Parts.{length-content}
use Rattle.fixed_block.proofs.Questions.{read-64, read-65, read-18, read-19, read-content, refuses, gives}
use Rattle.fixed_block.proofs.read.read_fixed.Goals as goal

pub returns-then-block-k : goal.returns-then-block-k
returns-then-block-k c =
    let a = c.args in
    let m = parameters a.polynomial in
    refuses (read_fixed m a.block.now (length a.out.now)) (read-64 m a.block.now (length a.out.now) (omega (arith, c.if-block-k.true, c.check_length-k.ensures)))

pub returns-then-limit-block : goal.returns-then-limit-block
returns-then-limit-block c =
    let a = c.args in
    let m = parameters a.polynomial in
    refuses (read_fixed m a.block.now (length a.out.now))
    (read-65 m a.block.now (length a.out.now) (omega (arith, c.if-block-k.false, c.check_length-k.ensures)) (omega (arith, c.if-limit-block.true, c.limit.ensures)))

pub returns-then-not-has_check : goal.returns-then-not-has_check
returns-then-not-has_check c =
    let a = c.args in
    let m = parameters a.polynomial in
    refuses (read_fixed m a.block.now (length a.out.now))
    (read-18 m a.block.now (length a.out.now) (omega (arith, c.if-block-k.false, c.check_length-k.ensures)) (omega (arith, c.if-limit-block.false, c.limit.ensures))
    (sym c.has_check.ensures ∙ c.if-not-has_check.true))

pub returns-then-out-n : goal.returns-then-out-n
returns-then-out-n c =
    let a = c.args in
    let m = parameters a.polynomial in
    let k = c.check_length-k.ensures in
    rw k
    (refuses (read_fixed m a.block.now (length a.out.now))
    (read-19 m a.block.now (length a.out.now) (omega (arith, c.if-block-k.false, k)) (omega (arith, c.if-limit-block.false, c.limit.ensures))
    (sym c.has_check.ensures ∙ c.if-not-has_check.false) (omega (arith, c.if-out-n.true, k))))

pub returns : goal.returns
returns c =
    let a = c.args in
    let m = parameters a.polynomial in
    let k = c.check_length-k.ensures in
    rw k
    (gives a.out.now (read_fixed m a.block.now (length a.out.now))
    (read-content m a.block.now (length a.out.now) (omega (arith, c.if-block-k.false, k)) (omega (arith, c.if-limit-block.false, c.limit.ensures))
    (sym c.has_check.ensures ∙ c.if-not-has_check.false) (omega (arith, c.if-out-n.false, k)))
    (length-content m a.block.now)
    (ap (λ x. x ++ drop (length a.block.now - check_length m) a.out.now) (rw k at c.copy_from_slice.ensures.after)))
