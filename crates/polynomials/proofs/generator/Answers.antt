-- `generator` meets its contract: x to the degree leaves the lower coefficients. Assumes nothing.
use Rattle.std.proofs.Common.{◌∙◌, arith}
use Rattle.polynomials.proofs.Reduced.{generator_entered}
use Rattle.polynomials.proofs.generator.Goals as goal

pub returns : goal.returns
returns g c =
    let l = g.met.M.Modulus.width in
    c.moved_up.ensures ∙ generator_entered g.M.Modulus.generator (omega (arith, l, g.met.M.Number.Polynomial.wide)) l c.monomial.ensures
