-- `join_by` meets its contract: the question, then a product with a power of x. Assumes nothing.
use Rattle.std.proofs.Common.{sym, ◌∙◌, arith}
use Rattle.joining.proofs.Answering.{answer_beyond, answer_within}
use Rattle.joining.proofs.join_by.Goals as goal

pub returns-then-not-within : goal.returns-then-not-within
returns-then-not-within g c m e f =
    let n = g.M.Number.Polynomial.coefficients in
    answer_beyond m e f (n c.args.first.check) c.args.first.length (n c.args.second.check) c.args.second.length c.within.ensures c.if-not-within.true

pub returns : goal.returns
returns g c m e f =
    let a = c.args in
    let n = g.M.Number.Polynomial.coefficients in
    let wide = g.met.M.Number.Polynomial.length_coefficients in
    let p = g.met.M.Modulus.width in
    answer_within m e f (n a.first.check) a.first.length (n a.second.check) a.second.length c.within.ensures c.if-not-within.false
    (omega (arith, g.met.M.Number.Polynomial.wide, p)) (wide a.first.check ∙ sym p) (wide a.second.check ∙ sym p)
    c.power.ensures c.product-moved.ensures c.plus.ensures
