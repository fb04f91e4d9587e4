-- The generators of GOST 28082-89, by their exponents. Assumes nothing.
use Rattle.std.specs.Prelude.{ℕ, zero, suc, Bool, false, ◌||◌, List, [], ◌∷◌, map, eqb}

abbrev pub among : ℕ → List ℕ → Bool
among n [] = false
among n (e ∷ es) = eqb n e || among n es

-- the w coefficients below x^w of the polynomial that has these exponents
abbrev pub coefficients : ℕ → List ℕ → List Bool
coefficients zero es = []
coefficients (suc w) es = among w es ∷ coefficients w es

-- x^16 + x^12 + x^5 + 1: par. 2.1.4 and 2.2.4, methods 3 and 5
unfoldable pub ccitt16 : List Bool
ccitt16 = coefficients 16 (12 ∷ 5 ∷ 0 ∷ [])

-- x^16 + x^15 + x^2 + 1: par. 2.1.4, method 4
unfoldable pub ibm16 : List Bool
ibm16 = coefficients 16 (15 ∷ 2 ∷ 0 ∷ [])

-- x^32 + x^26 + x^23 + x^22 + x^16 + x^12 + x^11 + x^10 + x^8 + x^7 + x^5 + x^4 + x^2 + x + 1: par. 2.2.4, method 6
unfoldable pub ieee32 : List Bool
ieee32 = coefficients 32 (26 ∷ 23 ∷ 22 ∷ 16 ∷ 12 ∷ 11 ∷ 10 ∷ 8 ∷ 7 ∷ 5 ∷ 4 ∷ 2 ∷ 1 ∷ 0 ∷ [])

-- a string as the standard prints it, x^0 last
abbrev pub digits : List ℕ → List Bool
digits = map (λ d. eqb d 1)

-- appendix 1: the remainder that a receiver finds after a block or frame without errors
abbrev pub receiver16 : List Bool
receiver16 = digits (0 ∷ 0 ∷ 0 ∷ 1 ∷ 1 ∷ 1 ∷ 0 ∷ 1 ∷ 0 ∷ 0 ∷ 0 ∷ 0 ∷ 1 ∷ 1 ∷ 1 ∷ 1 ∷ [])

-- appendix 2: the same of a 32-bit frame, as the appendix's formula gives it
abbrev pub receiver32 : List Bool
receiver32 =
    digits
    (1 ∷ 1 ∷ 0 ∷ 0 ∷ 0 ∷ 1 ∷ 1 ∷ 1 ∷ 0 ∷ 0 ∷ 0 ∷ 0 ∷ 0 ∷ 1 ∷ 0 ∷ 0 ∷ 1 ∷ 1 ∷ 0 ∷ 1 ∷ 1 ∷ 1 ∷ 0 ∷ 1 ∷ 0 ∷ 1 ∷ 1 ∷ 1 ∷ 1 ∷ 0 ∷ 1 ∷ 1 ∷ [])

-- and as the appendix prints it, which its formula does not give
abbrev pub printed32 : List Bool
printed32 =
    digits
    (1 ∷ 0 ∷ 0 ∷ 0 ∷ 1 ∷ 1 ∷ 1 ∷ 0 ∷ 0 ∷ 0 ∷ 0 ∷ 0 ∷ 1 ∷ 0 ∷ 0 ∷ 1 ∷ 1 ∷ 0 ∷ 1 ∷ 1 ∷ 1 ∷ 0 ∷ 1 ∷ 0 ∷ 1 ∷ 1 ∷ 1 ∷ 1 ∷ 0 ∷ 1 ∷ 1 ∷ 1 ∷ [])
