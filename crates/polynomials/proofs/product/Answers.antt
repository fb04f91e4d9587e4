-- `product` meets its contract. The loop's invariant: the coefficients that are left, added, give the whole. Assumes nothing.
use Rattle.std.proofs.Common.{ap, sym, ◌∙◌, arith}
use Rattle.bits.specs.Strings.{zeros}
use Rattle.polynomials.proofs.Terms.{adding_first, adding_next, adding_all}
use Rattle.polynomials.proofs.product.Goals as goal

pub loop-place-init : goal.loop-place-init
loop-place-init g c =
    let p = g.met.M.Modulus.width in
    adding_first (omega (arith, p, g.met.M.Number.Polynomial.wide)) (g.met.M.Number.Polynomial.length_coefficients c.args.b ∙ sym p)
    (c.zero-sum.ensures ∙ ap zeros (sym p))

pub loop-place-preserved : goal.loop-place-preserved
loop-place-preserved g c =
    let p = g.met.M.Modulus.width in
    adding_next (g.met.M.Number.Polynomial.length_coefficients c.args.a ∙ sym p) c.loop-place.invariant
    (omega (arith, c.loop-place-test.true, c.WIDTH-place-end.ensures, p))
    c.generator-generator.ensures c.is_set.ensures c.scaled-term.ensures c.times_x.ensures c.plus-sum.ensures

pub returns : goal.returns
returns g c =
    let p = g.met.M.Modulus.width in
    adding_all (g.met.M.Number.Polynomial.length_coefficients c.args.a ∙ sym p) c.loop-place.invariant
    (omega (arith, c.loop-place-test.false, c.WIDTH-place-end.ensures, p))
