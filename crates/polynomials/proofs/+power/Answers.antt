-- `power` meets its contract: x to half of the exponent, squared, and x times that where the exponent is odd. Assumes nothing.
use Rattle.std.proofs.Common.{false, sym, ap, ◌∙◌, arith}
use Rattle.division.specs.Division.{step}
use Rattle.polynomials.proofs.Powers.{lone_power, even_power, odd_power}
use Rattle.polynomials.proofs.+power.Goals as goal

pub returns-then-n-WIDTH : goal.returns-then-n-WIDTH
returns-then-n-WIDTH g t c =
    lone_power g.M.Modulus.generator c.args.n (sym g.met.M.Modulus.width) (omega (arith, c.if-n-WIDTH.true, c.WIDTH.ensures)) c.monomial.ensures

pub returns-then-n-eq1 : goal.returns-then-n-eq1
returns-then-n-eq1 g t c =
    odd_power g.M.Modulus.generator c.args.n (omega (arith, g.met.M.Modulus.width, g.met.M.Number.Polynomial.wide)) c.power-root.ensures
    c.squared-square.ensures c.if-n-eq1.true
    (c.times_x.ensures ∙ ap (λ q. step q (g.M.Number.Polynomial.coefficients c.squared-square.result) false) c.generator.ensures)

pub returns : goal.returns
returns g t c =
    even_power g.M.Modulus.generator c.args.n (omega (arith, g.met.M.Modulus.width, g.met.M.Number.Polynomial.wide)) c.power-root.ensures
    c.squared-square.ensures c.if-n-eq1.false
