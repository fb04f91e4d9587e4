-- What is proved of products and powers: each statement once, under the name that its proof carries. Assumes nothing.
use Rattle.std.specs.Prelude.{◌≡◌, ℕ, ◌+◌, ◌<◌, Bool, List, ◌++◌, length}
use Rattle.bits.specs.Strings.{zeros}
use Rattle.division.specs.Division.{remainder, power}
use Rattle.polynomials.specs.Product.{product, spread}

-- the product with a power of x is the remainder of the string with zeros behind it
abbrev pub ProductWithPower : Type 0
ProductWithPower = (p a : List Bool) (n : ℕ) → 0 < length p → product p a (power p n) ≡ remainder p (a ++ zeros n)

-- the square of x^n is x^2n
abbrev pub SquareOfPower : Type 0
SquareOfPower = (p : List Bool) (n : ℕ) → 0 < length p → product p (power p n) (power p n) ≡ power p (n + n)

-- the square of a polynomial has its coefficients at the even powers
abbrev pub SquareSpread : Type 0
SquareSpread = (p a : List Bool) → product p a a ≡ remainder p (spread a)
