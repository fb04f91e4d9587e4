-- The last bits of a line: what they give, the pending bits in front. Assumes nothing.
use Rattle.std.specs.Prelude.{◌≡◌, ℕ, ◌<◌, Bool, List, length, Result, Ok, Err}
use Rattle.bits.specs.Bytes.{low_bits, value}
use Rattle.frame.specs.Stuffing.{Unstuffed, clean, missing, unstuff}
use Rattle.zero_removal.specs.declared.LineReader.{LineReader}
use Rattle.zero_removal.specs.declared.MissingZero.{MissingZero}
use Rattle.zero_removal.specs.Removal.{ones_before, in_front}
use Rattle.zero_removal.specs.Reader.{pending_bits}
use Rattle.line_ends.specs.declared.LastRead.{LastRead}

-- what the first k bits of a byte give, where the line ends behind them
abbrev pub last_of : LineReader → ℕ → ℕ → Unstuffed
last_of r byte k = in_front (pending_bits r) (unstuff (ones_before r.before) 0 (low_bits k byte))

-- how many bits there are, and the number that holds them
pub record Holds (s : List Bool) (x : LastRead) : Type 0 where
  pub counted : x.bits ≡ length s
  pub held_is : x.held ≡ value s

-- bits that are left, and what holds them
pub record LastBits (u : Unstuffed) (x : LastRead) : Type 0 where
  pub bits : List Bool
  pub left : u ≡ clean bits
  pub below : length bits < 16
  pub holds : Holds bits x

-- the place where a zero is missing
pub record LacksLast (u : Unstuffed) (m : MissingZero) : Type 0 where
  pub place_is : u ≡ missing m.0
  pub place_small : m.0 < 8

abbrev pub ReadsLast : LineReader → ℕ → ℕ → Result LastRead MissingZero → Type 0
ReadsLast r byte k (Ok x) = LastBits (last_of r byte k) x
ReadsLast r byte k (Err m) = LacksLast (last_of r byte k) m
