-- Blocks as lines: accepted, checked bits (document 01, part 4). Assumes nothing.
use Rattle.std.specs.Prelude.{◌≡◌, ◌↔◌, ℕ, Bool, true, List, [], ◌∷◌, ◌++◌, length, replicate}
use Rattle.bits.specs.Bytes.{bits_of, Bytes}
use Rattle.block.specs.declared.Method.{Method}
use Rattle.block.specs.declared.Parity.{Parity}
use Rattle.block.specs.declared.Mark.{Mark}
use Rattle.block.specs.Signs.{CodeTable}
use Rattle.block.specs.Marks.{is_counted, counted, check_bytes}
use Rattle.block.specs.Read.{Framed, found, unframed, framed, Framing, none, framing_of, ReadAnswer, taken, refusal, read_block}
use Rattle.guarantees.specs.Lines.{NoneOf, Lines}

-- the line is taken, or its output is too short
abbrev pub Accepts : ReadAnswer → Type 0
Accepts (taken parts) = Unit
Accepts (refusal number value) = number ≡ 19

-- however long the output
abbrev pub Accepted : CodeTable → Method → Parity → List ℕ → Type 0
Accepted t m p line = (room : ℕ) → Accepts (read_block t m p line room)

-- the number of an answer; 0 where the line is taken
abbrev pub number_of : ReadAnswer → ℕ
number_of (taken parts) = 0
number_of (refusal number value) = number

-- the refusals of a line that is not accepted, in the order asked
abbrev pub refusals : List ℕ
refusals = 58 ∷ 11 ∷ 12 ∷ 13 ∷ 14 ∷ 15 ∷ 52 ∷ 53 ∷ 17 ∷ 18 ∷ 54 ∷ []

-- accepted means none of them
abbrev pub AcceptsByNumber : ReadAnswer → Type 0
AcceptsByNumber a = Accepts a ↔ NoneOf refusals (number_of a)

-- the bits of the counted bytes, then of the check
abbrev pub checked_in : List ℕ → Framed → List Bool
checked_in line (found ks f e) = bits_of (counted ks line ++ check_bytes ks line)
checked_in line (unframed number value) = []

unfoldable pub checked_bits : CodeTable → Method → Parity → List ℕ → List Bool
checked_bits t m p line = checked_in line (framed t m p line)

-- of each byte, whether its bits are checked: the counted ones, and all behind the marks
abbrev pub checked_bytes : List Mark → List ℕ → List Bool
checked_bytes [] [] = []
checked_bytes [] (b ∷ line) = true ∷ checked_bytes [] line
checked_bytes (k ∷ ks) [] = []
checked_bytes (k ∷ ks) (b ∷ line) = is_counted k ∷ checked_bytes ks line

-- the same of each of its bits
abbrev pub each_eight : List Bool → List Bool
each_eight [] = []
each_eight (x ∷ xs) = replicate 8 x ++ each_eight xs

abbrev pub is_checked_in : List ℕ → Framed → List Bool
is_checked_in line (found ks f e) = each_eight (checked_bytes ks line)
is_checked_in line (unframed number value) = []

unfoldable pub is_checked : CodeTable → Method → Parity → List ℕ → List Bool
is_checked t m p line = is_checked_in line (framed t m p line)

abbrev pub blocks : CodeTable → Method → Parity → Lines
blocks t m p =
    record {
      Line = List ℕ;
      IsLine = Bytes;
      size = length;
      bits = bits_of;
      Accepted = Accepted t m p;
      Framing = Framing;
      none = none;
      framing_of = framing_of t m p;
      is_checked = is_checked t m p;
      checked_bits = checked_bits t m p;
    }
