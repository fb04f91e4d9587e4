-- The columns of a block of method 7 that two lines differ in (document 02, card 5). Assumes nothing.
use Rattle.std.specs.Prelude.{◌≡◌, ℕ, ◌+◌, ◌-◌, ◌*◌, ◌/◌, ◌%◌, ◌≤◌, ◌<◌, List, [], ◌∷◌, map, length}
use Rattle.guarantees.specs.Lines.{Lines, TwoAccepted, distance, differing_checked}

-- the columns are the checked bytes, numbered from 1: with n counted bytes, those are 1 to n, and the row check is n + 1
abbrev pub column_of : ℕ → ℕ
column_of bit = bit / 8 + 1

-- of each differing bit, its column
abbrev pub differing_columns : (L : Lines) → L.Line → L.Line → List ℕ
differing_columns L A B = map column_of (differing_checked L A B)

-- n counted bytes, the row check and the diagonal character
abbrev pub Counted : (L : Lines) → L.Line → ℕ → Type 0
Counted L A n = length (L.checked_bits A) ≡ 8 * (n + 2)

-- two bits of each of two of the columns 1 to n, a multiple of k apart
pub record TwoColumnsApart (k n : ℕ) (columns : List ℕ) : Type 0 where
  pub first : ℕ
  pub second : ℕ
  pub two_each : columns ≡ first ∷ first ∷ second ∷ second ∷ []
  pub within : (1 ≤ first) × (first < second) × (second ≤ n)
  pub apart : (second - first) % k ≡ 0

-- in exactly four bits only if these lie in two of the columns 1 to n + 1, a multiple of k apart
abbrev pub FourWhereApart : ℕ → Lines → Type 0
FourWhereApart k L =
    (A B : L.Line) → TwoAccepted L A B → (n : ℕ) → Counted L A n → distance L A B ≡ 4 → TwoColumnsApart k (n + 1) (differing_columns L A B)

-- in at least m bits where n + 1 is at most k
abbrev pub AtLeastWhereFew : ℕ → ℕ → Lines → Type 0
AtLeastWhereFew m k L = (A B : L.Line) → TwoAccepted L A B → (n : ℕ) → Counted L A n → n + 1 ≤ k → m ≤ distance L A B
