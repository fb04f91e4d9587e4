-- Reading the line by bytes: the bits that are pending, and what a byte of the line gives behind them. Assumes nothing.
use Rattle.std.specs.Prelude.{◌≡◌, ℕ, ◌*◌, ◌^◌, ◌<◌, Bool, List, [], ◌++◌, Option, Some, None}
use Rattle.std.proofs.Math.Seq.{slice}
use Rattle.bits.specs.Bytes.{low_bits}
use Rattle.frame.specs.Stuffing.{Unstuffed, clean, missing, unstuff}
use Rattle.zero_removal.specs.declared.LineReader.{LineReader}
use Rattle.zero_removal.specs.declared.ByteRead.{ByteRead}
use Rattle.zero_removal.specs.Removal.{ones_through, ones_before, unstuff_part, in_front}

pub record ReaderFits (r : LineReader) : Type 0 where
  pub pending_small : r.pending < 8
  pub held_small : r.held < 2 ^ r.pending
  pub before_small : r.before < 32

-- behind the opening flag
abbrev pub first_reader : LineReader
first_reader = record { before = 0; held = 0; pending = 0 }

abbrev pub pending_bits : LineReader → List Bool
pending_bits r = low_bits r.pending r.held

-- the bits of a byte that was made whole
abbrev pub whole_bits : Option ℕ → List Bool
whole_bits (Some byte) = low_bits 8 byte
whole_bits None = []

-- what a byte of the line gives, with the pending bits in front
abbrev pub part_of : LineReader → ℕ → Unstuffed
part_of r byte = in_front (pending_bits r) (unstuff_part (ones_before r.before) 0 (low_bits 8 byte))

pub record ReadsByte (r : LineReader) (byte : ℕ) (x : ByteRead) : Type 0 where
  pub bits_are : part_of r byte ≡ clean (whole_bits x.byte ++ pending_bits x.next)
  pub run_is : ones_through (ones_before r.before) (low_bits 8 byte) ≡ ones_before x.next.before
  pub fits : ReaderFits x.next

-- what the line still gives before the place `end`, from its byte at `index` on
abbrev pub left_at : List Bool → ℕ → ℕ → LineReader → Unstuffed
left_at bits end index r = in_front (pending_bits r) (unstuff (ones_before r.before) (8 * index) (slice (8 * index) end bits))

-- the bits of content and check, where every inserted zero stands
unfoldable pub data_of : Unstuffed → List Bool
data_of (clean s) = s
data_of (missing p) = []
