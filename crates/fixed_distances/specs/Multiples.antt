-- Multiples of a polynomial. Assumes nothing.
use Rattle.std.specs.Prelude.{◌≡◌, ℕ, Bool, List, length}
use Rattle.bits.specs.Strings.{weight}
use Rattle.division.specs.Division.{Divides}

-- a multiple of n bits of which just k are set
pub record Multiple (k n : ℕ) (p : List Bool) : Type 0 where
  pub string : List Bool
  pub divides : Divides p string
  pub size : length string ≡ n
  pub set : weight string ≡ k
