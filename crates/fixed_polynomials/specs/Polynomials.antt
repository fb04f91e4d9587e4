-- The checks of fixed blocks (GOST 17422-82, par. 2.4 and 2.5; document 02, card 11): the polynomials, by their exponents, and what
-- the one definition of a cyclic check takes of them. Assumes nothing.
use Rattle.std.specs.Prelude.{[], ◌∷◌, List, Bool, true}
use Rattle.bits.specs.Strings.{zeros}
use Rattle.division.specs.Generators.{coefficients}
use Rattle.cyclic.specs.Check.{Parameters}

-- x^8 + x^2 + x + 1
unfoldable pub fixed8 : List Bool
fixed8 = coefficients 8 (2 ∷ 1 ∷ 0 ∷ [])

-- x^16 + x^15 + x^13 + x^11 + x^5 + x^3 + x + 1
unfoldable pub fixed16 : List Bool
fixed16 = coefficients 16 (15 ∷ 13 ∷ 11 ∷ 5 ∷ 3 ∷ 1 ∷ 0 ∷ [])

-- x^24 + x^22 + x^12 + x^10 + x^9 + x^2 + x + 1
unfoldable pub fixed24 : List Bool
fixed24 = coefficients 24 (22 ∷ 12 ∷ 10 ∷ 9 ∷ 2 ∷ 1 ∷ 0 ∷ [])

-- par. 2.4: the remainder is inverted, and no ones start the division. The limit is that of the block, its check included: 128, 128
-- and 2,048 bits, here in bytes
unfoldable pub degree8 : Parameters
degree8 = record { generator = fixed8; start = zeros 8; inverted = true; limit = 16 }

unfoldable pub degree16 : Parameters
degree16 = record { generator = fixed16; start = zeros 16; inverted = true; limit = 16 }

unfoldable pub degree24 : Parameters
degree24 = record { generator = fixed24; start = zeros 24; inverted = true; limit = 256 }
