-- Zero removal in a part of the line, and in one byte of it. Assumes nothing.
use Rattle.std.specs.Prelude.{◌≡◌, ℕ, ◌+◌, ◌-◌, ◌^◌, ◌<◌, ◌≤◌, Bool, List, [], ◌∷◌, ◌++◌, eqb, Result, Ok, Err}
use Rattle.bits.specs.Bytes.{low_bits}
use Rattle.frame.specs.Stuffing.{Unstuffed, clean, missing, unstuff_bit, ones_after}
use Rattle.zero_removal.specs.declared.ReceivedByte.{ReceivedByte}
use Rattle.zero_removal.specs.declared.MissingZero.{MissingZero}

-- the ones in a row on the line after some bits
unfoldable pub ones_through : ℕ → List Bool → ℕ
ones_through run [] = run
ones_through run (b ∷ s) = ones_through (ones_after run b) s

-- the ones in a row at the end of the last five bits received
unfoldable pub ones_before : ℕ → ℕ
ones_before before = ones_through 0 (low_bits 5 before)

-- zero removal in a part of the line, from the place p on
unfoldable pub unstuff_part : ℕ → ℕ → List Bool → Unstuffed
unstuff_part run p [] = clean []
unstuff_part run p (b ∷ s) = unstuff_bit (eqb run 5) b p (unstuff_part (ones_after run b) (p + 1) s)

-- bits in front of what the rest gives
abbrev pub in_front : List Bool → Unstuffed → Unstuffed
in_front d (clean s) = clean (d ++ s)
in_front d (missing p) = missing p

-- what a byte gives behind five bits
pub record Gives (before byte : ℕ) (r : ReceivedByte) : Type 0 where
  pub bits_are : unstuff_part (ones_before before) 0 (low_bits 8 byte) ≡ clean (low_bits (8 - r.zeros) r.bits)
  pub run_is : ones_through (ones_before before) (low_bits 8 byte) ≡ ones_before r.last
  pub few : r.zeros ≤ 2
  pub bits_small : r.bits < 2 ^ (8 - r.zeros)
  pub last_small : r.last < 32

-- or the place where it lacks a zero
pub record Lacks (before byte : ℕ) (m : MissingZero) : Type 0 where
  pub place_is : unstuff_part (ones_before before) 0 (low_bits 8 byte) ≡ missing m.0
  pub place_small : m.0 < 8

abbrev pub Receives : ℕ → ℕ → Result ReceivedByte MissingZero → Type 0
Receives before byte (Ok r) = Gives before byte r
Receives before byte (Err m) = Lacks before byte m
