-- Frames as lines (document 01, part 4): a frame is its told bits. Assumes nothing.
use Rattle.std.specs.Prelude.{◌≡◌, ◌↔◌, ℕ, Bool, List, [], ◌∷◌, ◌++◌, length}
use Rattle.bits.specs.Strings.{zeros, invert}
use Rattle.cyclic.specs.Check.{Parameters}
use Rattle.frame.specs.Stuffing.{behind_five}
use Rattle.frame.specs.Read.{Framed, found, unframed, framed, between, Framing, none, framing_of, ReadAnswer, taken, refusal, read_bits}
use Rattle.guarantees.specs.Lines.{NoneOf, Lines}

-- the frame is taken, or its output is too short
abbrev pub Accepts : ReadAnswer → Type 0
Accepts (taken content) = Unit
Accepts (refusal number value) = number ≡ 38

-- however long the output; of the told bits 31 is passed
abbrev pub Accepted : Parameters → List Bool → Type 0
Accepted m frame = (room : ℕ) → Accepts (read_bits m frame room)

-- the number of an answer; 0 where the frame is taken
abbrev pub number_of : ReadAnswer → ℕ
number_of (taken content) = 0
number_of (refusal number value) = number

-- the refusals of a frame that is not accepted, in the order asked
abbrev pub refusals : List ℕ
refusals = 31 ∷ 32 ∷ 33 ∷ 35 ∷ 36 ∷ 37 ∷ []

-- accepted means none of them
abbrev pub AcceptsByNumber : ReadAnswer → Type 0
AcceptsByNumber a = Accepts a ↔ NoneOf refusals (number_of a)

-- the bits of the content, then of the check
abbrev pub checked_in : Framed → List Bool
checked_in (found s) = s
checked_in (unframed number value) = []

unfoldable pub checked_bits : Parameters → List Bool → List Bool
checked_bits m frame = checked_in (framed m frame)

-- all between the flags but the inserted zeros
abbrev pub is_checked_in : List Bool → Framed → List Bool
is_checked_in frame (found s) = zeros 8 ++ (invert (behind_five 0 (between frame)) ++ zeros 8)
is_checked_in frame (unframed number value) = []

unfoldable pub is_checked : Parameters → List Bool → List Bool
is_checked m frame = is_checked_in frame (framed m frame)

abbrev pub frames : Parameters → Lines
frames m =
    record {
      Line = List Bool;
      IsLine = λ frame. Unit;
      size = length;
      bits = λ frame. frame;
      Accepted = Accepted m;
      Framing = Framing;
      none = none;
      framing_of = framing_of m;
      is_checked = is_checked m;
      checked_bits = checked_bits m;
    }
