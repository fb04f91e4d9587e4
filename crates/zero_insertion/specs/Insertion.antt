-- Zero insertion in one byte of content or check, or in its lowest bits. Assumes nothing.
use Rattle.std.specs.Prelude.{◌≡◌, ℕ, ◌+◌, ◌/◌, ◌^◌, ◌<◌, ◌≤◌}
use Rattle.std.specs.Int.Bits.{bit_and}
use Rattle.bits.specs.Bytes.{low_bits}
use Rattle.frame.specs.Stuffing.{stuff, run_after}
use Rattle.zero_insertion.specs.declared.SentByte.{SentByte}

-- a one at each place where five ones in a row start
unfoldable pub fives_in : ℕ → ℕ
fives_in x = bit_and (bit_and (bit_and x (x / 2)) (bit_and (x / 4) (x / 8))) (x / 16)

-- the ones in a row at the end of the last four bits sent
unfoldable pub run_before : ℕ → ℕ
run_before before = run_after 0 (low_bits 4 before)

-- what the k lowest bits of a byte become behind four bits; of a whole byte k is 8
pub record Sends (k before byte : ℕ) (s : SentByte) : Type 0 where
  pub bits_are : stuff (run_before before) (low_bits k byte) ≡ low_bits (k + s.zeros) s.bits
  pub run_is : run_after (run_before before) (low_bits k byte) ≡ run_before s.before
  pub few : s.zeros ≤ 2
  pub bits_small : s.bits < 2 ^ (k + s.zeros)
  pub before_small : s.before < 16
