-- A distance is met: lines of a length that differ in just so many bits. Assumes nothing.
use Rattle.std.specs.Prelude.{◌≡◌, ℕ, length}
use Rattle.guarantees.specs.Lines.{Lines}
use Rattle.witness.specs.Sharp.{DifferInJust}

-- two unequal accepted lines of k checked bits that differ in just n bits
pub record MetAt (n k : ℕ) (L : Lines) : Type 0 where
  pub in_just : DifferInJust n L
  pub checked_length : length (L.checked_bits in_just.A) ≡ k
