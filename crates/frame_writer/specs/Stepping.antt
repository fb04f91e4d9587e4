-- The running pair of a bit's byte and its place there (document 02, card 4). Assumes nothing.
use Rattle.std.specs.Prelude.{ℕ, zero, suc, ◌+◌, cond, eqb}
use Rattle.frame_writer.specs.declared.Position.{Position}

-- a byte and a place in it
pub data Pair : Type 0 where
  at : ℕ → ℕ → Pair

-- one bit on: the place moves up by one, past 7 to the next byte's 0
abbrev pub step : Pair → Pair
step (at index place) = cond (eqb place 7) (at (index + 1) 0) (at index (place + 1))

-- n bits on
unfoldable pub stepped : ℕ → Pair → Pair
stepped zero pair = pair
stepped (suc n) pair = step (stepped n pair)

unfoldable pub pair : Position → Pair
pair p = at p.index p.place
