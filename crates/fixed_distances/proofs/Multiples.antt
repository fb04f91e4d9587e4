-- Multiples of the polynomials, computed. Assumes nothing.
use mathlib.Core.Path.{refl}
use mathlib.Core.Bool.{xor}
use mathlib.Core.List.{[], ◌∷◌}
use Rattle.division.specs.Division.{divide, remainder}
use Rattle.division.specs.Generators.{coefficients}
use Rattle.fixed_polynomials.specs.Polynomials.{fixed8, fixed16, fixed24}
use Rattle.fixed_distances.specs.Multiples.{Multiple}

-- ---- one bit longer than the distances reach

pub longer_8 : Multiple 2 128 fixed8
unfolding fixed8 divide remainder xor
longer_8 = record { string = coefficients 128 (127 ∷ 0 ∷ []); divides = refl; size = refl; set = refl }

pub longer_16 : Multiple 4 129 fixed16
unfolding fixed16 divide remainder xor
longer_16 = record { string = coefficients 129 (128 ∷ 127 ∷ 1 ∷ 0 ∷ []); divides = refl; size = refl; set = refl }

pub longer_24 : Multiple 4 2049 fixed24
unfolding fixed24 divide remainder xor
longer_24 = record { string = coefficients 2049 (2048 ∷ 2047 ∷ 1 ∷ 0 ∷ []); divides = refl; size = refl; set = refl }

-- ---- with just as many bits set as the distances say

pub multiple_8 : Multiple 4 9 fixed8
unfolding fixed8 divide remainder xor
multiple_8 = record { string = coefficients 9 (8 ∷ 2 ∷ 1 ∷ 0 ∷ []); divides = refl; size = refl; set = refl }

pub multiple_16 : Multiple 6 28 fixed16
unfolding fixed16 divide remainder xor
multiple_16 = record { string = coefficients 28 (27 ∷ 10 ∷ 6 ∷ 5 ∷ 2 ∷ 0 ∷ []); divides = refl; size = refl; set = refl }

pub multiple_24 : Multiple 6 56 fixed24
unfolding fixed24 divide remainder xor
multiple_24 = record { string = coefficients 56 (55 ∷ 53 ∷ 49 ∷ 43 ∷ 16 ∷ 0 ∷ []); divides = refl; size = refl; set = refl }
