-- `squared` meets its contract: the spread coefficients, of which the upper half is taken back. Assumes nothing.
use Rattle.std.proofs.Common.{sym, ◌∙◌, arith}
use Rattle.polynomials.proofs.Reduced.{squared_halves}
use Rattle.polynomials.proofs.squared.Goals as goal

pub returns : goal.returns
returns g c =
    let n = g.M.Number.Polynomial.coefficients in
    let wide = g.met.M.Number.Polynomial.length_coefficients in
    let l = g.met.M.Modulus.width in
    let halves = c.spread-upper.result in
    squared_halves g.M.Modulus.generator (omega (arith, l, g.met.M.Number.Polynomial.wide)) (n c.args.a) (n halves.0) (n halves.1)
    (wide halves.0 ∙ sym l) (wide halves.1 ∙ sym l) c.spread-upper.ensures c.moved_up.ensures c.plus.ensures
