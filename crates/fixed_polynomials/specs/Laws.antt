-- What is proved of the polynomials: each statement once, under the name that its proof carries. Assumes nothing.
use Rattle.division.specs.Laws.{EvenTerms, OrderIs}
use Rattle.cyclic.specs.Laws.{OfWidth}
use Rattle.fixed_polynomials.specs.Polynomials.{fixed8, fixed16, fixed24, degree8, degree16, degree24}

pub record Widths : Type 0 where
  pub degree_8 : OfWidth 8 degree8
  pub degree_16 : OfWidth 16 degree16
  pub degree_24 : OfWidth 24 degree24

-- x + 1 divides each
pub record Evens : Type 0 where
  pub degree_8 : EvenTerms fixed8
  pub degree_16 : EvenTerms fixed16
  pub degree_24 : EvenTerms fixed24

-- the orders of x. The two bits farthest apart in a block stand 127, 127 and 2,047 apart
pub record Orders : Type 0 where
  pub degree_8 : OrderIs fixed8 127 127
  pub degree_16 : OrderIs fixed16 254 254
  pub degree_24 : OrderIs fixed24 4094 4094
