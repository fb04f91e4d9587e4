-- Bytes stored one after the other. Assumes nothing.
use Rattle.std.specs.Prelude.{◌≡◌, ℕ, List, ◌++◌}
use Rattle.std.proofs.lemmas.List.Edits.{sets}

-- `bytes` were stored from the place `at` on, and what is stored from `next` on stands behind them: with nothing behind them, the
-- output is `sets before at bytes`. `sets` leaves out what is behind the end of the output
pub record Stored (before : List ℕ) (at : ℕ) (bytes after : List ℕ) (next : ℕ) : Type 0 where
  pub behind : (rest : List ℕ) → sets after next rest ≡ sets before at (bytes ++ rest)
