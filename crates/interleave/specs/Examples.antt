-- Interleaving worked out at small numbers. Assumes nothing.
use Rattle.std.specs.Prelude.{◌≡◌, ℕ, ◌/◌, ◌<◌, List, [], ◌∷◌}
use Rattle.interleave.specs.Interleave.{interleave, place, deinterleave}
use Rattle.interleave.specs.Properties.{distance}

-- rows 0 1 2, 3 4 5 and 6 7
abbrev pub eight : List ℕ
eight = 0 ∷ 1 ∷ 2 ∷ 3 ∷ 4 ∷ 5 ∷ 6 ∷ 7 ∷ []

abbrev pub by_columns : List ℕ
by_columns = 0 ∷ 3 ∷ 6 ∷ 1 ∷ 4 ∷ 7 ∷ 2 ∷ 5 ∷ []

pub record Examples : Type 0 where
  pub sent : interleave 3 eight ≡ by_columns
  pub back : deinterleave 3 by_columns ≡ eight
  -- neighbours may stand as near as is said: bytes 0 and 1 of six in rows of 3
  pub met : distance (place 3 6 0) (place 3 6 1) ≡ 6 / 3
  -- and with two columns nearer: bytes 1 and 2 of eight
  pub two_columns : distance (place 2 8 1) (place 2 8 2) < 8 / 2
