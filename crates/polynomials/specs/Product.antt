-- Polynomials of w coefficients: a power of x, products modulo a divisor, and squares. Assumes nothing.
use Rattle.std.specs.Prelude.{ℕ, suc, ◌-◌, Bool, true, false, cond, nat_lt, List, [], ◌∷◌, ◌++◌}
use Rattle.bits.specs.Strings.{zeros}
use Rattle.division.specs.Division.{remainder, times}

-- x to the power n where n is below w, else zero
unfoldable pub monomial : ℕ → ℕ → List Bool
monomial w n = cond (nat_lt n w) (zeros (w - suc n) ++ true ∷ zeros n) (zeros w)

-- the product of two polynomials, modulo the divisor x^w + p
unfoldable pub product : List Bool → List Bool → List Bool → List Bool
product p a b = remainder p (times a b)

-- the square of a polynomial, not yet divided: the coefficients at the even powers
unfoldable pub spread : List Bool → List Bool
spread [] = []
spread (x ∷ a) = false ∷ x ∷ spread a
