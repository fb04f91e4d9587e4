-- Which bytes a run of data holds. Assumes nothing.
use Rattle.std.specs.Prelude.{ℕ, ◌<◌, Bool, false, not, ◌&&◌, ◌||◌, ltb}
use Rattle.std.specs.Int.Bits.{bit_xor}
use Rattle.block.specs.declared.Field.{Field}
use Rattle.block.specs.declared.Field.TheVariants.{Start, StartDle, Header, HeaderDle, Text, Clear, ClearDle}
use Rattle.block.specs.Signs.{CodeTable, koi7, sign_of, is_dle}
use Rattle.block.specs.Characters.{character}
use Rattle.block.specs.Write.{is_other}

-- in header and plain text what is no sign; where `low`, only below 80
unfoldable pub is_plain_byte : CodeTable → Bool → Bool → ℕ → Bool
is_plain_byte t seven low b = is_other (sign_of t (character seven b)) && (not low || ltb b 0x80)

-- in clear text all but DLE
unfoldable pub is_clear_byte : CodeTable → Bool → ℕ → Bool
is_clear_byte t seven b = not (is_dle (sign_of t (character seven b)))

-- whether a byte is data of a field
abbrev pub is_data : CodeTable → Bool → Field → ℕ → Bool
is_data t seven Start b = false
is_data t seven StartDle b = false
is_data t seven Header b = is_plain_byte t seven false b
is_data t seven HeaderDle b = false
is_data t seven Text b = is_plain_byte t seven false b
is_data t seven Clear b = is_clear_byte t seven b
is_data t seven ClearDle b = false

-- a byte that differs from every sign of KOI-7, as code sees it
pub record OffSigns (c : ℕ) : Type 0 where
  pub soh : 0 < bit_xor c koi7.SOH
  pub stx : 0 < bit_xor c koi7.STX
  pub etx : 0 < bit_xor c koi7.ETX
  pub dle : 0 < bit_xor c koi7.DLE
  pub syn : 0 < bit_xor c koi7.SYN
  pub etb : 0 < bit_xor c koi7.ETB
  pub us : 0 < bit_xor c koi7.US
