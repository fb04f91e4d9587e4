-- `product` meets its contract. The loop's invariant: the coefficients that are left, added, give the whole. Assumes nothing.
use Rattle.polynomials.proofs.Terms.{Adding}
use Rattle.polynomials.proofs.product.Given as goal

abbrev pub invariant-loop-place : goal.invariant-loop-place
invariant-loop-place g l =
    let n = g.M.Number.Polynomial.coefficients in
    Adding g.M.Modulus.generator (n l.a) (n l.b) (n l.sum) l.place
