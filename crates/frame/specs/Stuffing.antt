-- Zero insertion and its removal (document 01, part 4; 003 par. 2.2.5). Assumes nothing.
use Rattle.std.specs.Prelude.{ℕ, ◌+◌, Bool, true, false, cond, List, [], ◌∷◌, ◌++◌, eqb}

-- whether a bit is the fifth one in a row, where `run` ones stand before it
unfoldable pub is_fifth : ℕ → Bool → Bool
is_fifth run true = eqb run 4
is_fifth run false = false

-- the run after a bit; it starts anew after a zero, also after an inserted one
unfoldable pub run_on : ℕ → Bool → ℕ
run_on run true = cond (eqb run 4) 0 (run + 1)
run_on run false = 0

abbrev pub zero_if : Bool → List Bool
zero_if true = false ∷ []
zero_if false = []

-- the bits with a zero after each five ones in a row
unfoldable pub stuff : ℕ → List Bool → List Bool
stuff run [] = []
stuff run (b ∷ s) = (b ∷ zero_if (is_fifth run b)) ++ stuff (run_on run b) s

-- the run after all the bits
unfoldable pub run_after : ℕ → List Bool → ℕ
run_after run [] = run
run_after run (b ∷ s) = run_after (run_on run b) s

-- the bits without the inserted zeros; or the place of the first bit that should be an inserted zero and is not
pub data Unstuffed : Type 0 where
  clean : List Bool → Unstuffed
  missing : ℕ → Unstuffed

abbrev pub ahead : Bool → Unstuffed → Unstuffed
ahead b (clean s) = clean (b ∷ s)
ahead b (missing p) = missing p

-- a bit at the place p, behind five ones in a row or not, before what the rest gives
abbrev pub unstuff_bit : Bool → Bool → ℕ → Unstuffed → Unstuffed
unstuff_bit true true p rest = missing p
unstuff_bit true false p rest = rest
unstuff_bit false b p rest = ahead b rest

-- the ones in a row on the line
abbrev pub ones_after : ℕ → Bool → ℕ
ones_after run true = run + 1
ones_after run false = 0

-- the bits from the place p on; where they end behind five ones, a zero is missing there
unfoldable pub unstuff : ℕ → ℕ → List Bool → Unstuffed
unstuff run p [] = cond (eqb run 5) (missing p) (clean [])
unstuff run p (b ∷ s) = unstuff_bit (eqb run 5) b p (unstuff (ones_after run b) (p + 1) s)

-- of each bit, whether it stands behind five ones in a row: the place of an inserted zero
unfoldable pub behind_five : ℕ → List Bool → List Bool
behind_five run [] = []
behind_five run (b ∷ s) = eqb run 5 ∷ behind_five (ones_after run b) s
