-- Two lines of one method, length and framing, and the bits in which they differ: the terms of document 01, part 4, said once
-- for blocks and frames. Assumes nothing.
use Rattle.std.specs.Prelude.{◌≡◌, ◌↔◌, ℕ, ◌%◌, ◌≤◌, Bool, false, ◌||◌, List, [], ◌∷◌, eqb, length}
use Rattle.bits.specs.Strings.{xor_bits}
use Rattle.bits.specs.Differences.{cons_if, set_from, differing, Apart, Burst}

-- a number that is none of those listed
abbrev pub is_one_of : List ℕ → ℕ → Bool
is_one_of [] n = false
is_one_of (k ∷ ks) n = eqb n k || is_one_of ks n

abbrev pub NoneOf : List ℕ → ℕ → Type 0
NoneOf ks n = is_one_of ks n ≡ false

-- the lines of one method: for methods 1, 2 and 7, under one parity setting
pub record Lines : Type 1 where
  pub Line : Type 0
  -- whether it can stand on a line: the numbers of a block are bytes
  pub IsLine : Line → Type 0
  -- its length: bytes of a block, told bits of a frame
  pub size : Line → ℕ
  -- its bits in the order sent
  pub bits : Line → List Bool
  -- the rule of reading takes it, or refuses it for its output alone: 19, or 38
  pub Accepted : Line → Type 0
  -- the places and values of its left-out bytes, or the places of its inserted zeros; `none` where it has no framing
  pub Framing : Type 0
  pub none : Framing
  pub framing_of : Line → Framing
  -- of each of its bits, whether it is a checked bit; and the checked bits in their order
  pub is_checked : Line → List Bool
  pub checked_bits : Line → List Bool

-- the questions up to 17, or 36, are all passed
abbrev pub HasFraming : (L : Lines) → L.Line → Type 0
HasFraming L A = L.framing_of A ≡ L.none → ⊥

-- two lines, taken or not, of one length and one framing
pub record SameFraming (L : Lines) (A B : L.Line) : Type 0 where
  pub lines : L.IsLine A × L.IsLine B
  pub one_length : L.size A ≡ L.size B
  pub has_framing : HasFraming L A
  pub one_framing : L.framing_of A ≡ L.framing_of B

-- two unequal lines, both accepted, with one method, one length, one framing and one parity setting
pub record TwoAccepted (L : Lines) (A B : L.Line) : Type 0 where
  pub same_framing : SameFraming L A B
  pub accepted : L.Accepted A × L.Accepted B
  pub unequal : A ≡ B → ⊥

-- the bits in which two lines differ, by their places on the line
abbrev pub differing_bits : (L : Lines) → L.Line → L.Line → List ℕ
differing_bits L A B = differing (L.bits A) (L.bits B)

abbrev pub distance : (L : Lines) → L.Line → L.Line → ℕ
distance L A B = length (differing_bits L A B)

-- the same by the numbers of the checked bits
abbrev pub differing_checked : (L : Lines) → L.Line → L.Line → List ℕ
differing_checked L A B = differing (L.checked_bits A) (L.checked_bits B)

-- the places of the checked bits on the line, in order
abbrev pub checked_places : (L : Lines) → L.Line → List ℕ
checked_places L A = set_from 0 (L.is_checked A)

-- those of a list at which a bit is set
abbrev pub chosen : List Bool → List ℕ → List ℕ
chosen [] ns = []
chosen (b ∷ bs) [] = []
chosen (b ∷ bs) (n ∷ ns) = cons_if b n (chosen bs ns)

-- ---- what is said of the lines of a method

-- an accepted line has a framing
abbrev pub AcceptedHasFraming : Lines → Type 0
AcceptedHasFraming L = (A : L.Line) → L.Accepted A → HasFraming L A

-- with one framing each differing bit is a checked bit: they are the differing checked bits, in number and in order
abbrev pub DifferWhereChecked : Lines → Type 0
DifferWhereChecked L =
    (A B : L.Line) → SameFraming L A B → (differing_bits L A B ≡ chosen (xor_bits (L.checked_bits A) (L.checked_bits B)) (checked_places L A))
    × (distance L A B ≡ length (differing_checked L A B))

-- and equal checked bits mean equal lines
abbrev pub EqualWhereChecked : Lines → Type 0
EqualWhereChecked L = (A B : L.Line) → SameFraming L A B → L.checked_bits A ≡ L.checked_bits B → A ≡ B

-- two unequal accepted lines differ in at least n bits
abbrev pub AtLeast : ℕ → Lines → Type 0
AtLeast n L = (A B : L.Line) → TwoAccepted L A B → n ≤ distance L A B

-- never in one burst of at most n bits
abbrev pub NoBurst : ℕ → Lines → Type 0
NoBurst n L = (A B : L.Line) → TwoAccepted L A B → (b : ℕ) → b ≤ n → Burst b (differing_checked L A B) → ⊥

-- never in an odd number of bits
abbrev pub NeverOdd : Lines → Type 0
NeverOdd L = (A B : L.Line) → TwoAccepted L A B → distance L A B % 2 ≡ 1 → ⊥

-- where the line B is the accepted line A with just two checked bits changed, it is accepted exactly when these are n apart
abbrev pub AcceptedWhereApart : ℕ → Lines → Type 0
AcceptedWhereApart n L =
    (A B : L.Line) → L.Accepted A → SameFraming L A B → (i j : ℕ) → differing_checked L A B ≡ i ∷ j ∷ [] → L.Accepted B ↔ Apart n i j
