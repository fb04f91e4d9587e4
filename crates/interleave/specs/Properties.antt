-- What is proved of interleaving (document 02, card 8), for every text, line and number. Assumes nothing.
use Rattle.std.specs.Prelude.{◌≡◌, ℕ, ◌+◌, ◌-◌, ◌*◌, ◌/◌, ◌%◌, ◌<◌, ◌≤◌, ◌==◌, min, List, length, get_or}
use Rattle.std.specs.List.{count_by}
use Rattle.std.specs.List.Sorted.{IsPermutation}
use Rattle.interleave.specs.Interleave.{interleave, deinterleave, place}

-- ---- places

-- "byte i goes by i modulo d, then by i divided by d": the places have this order, byte i is sent at its place, and no other byte is
pub record Places : Type 0 where
  pub closed_form : (d n i : ℕ) → 1 ≤ d → i < n → place d n i ≡ (i % d) * (n / d) + min (i % d) (n % d) + i / d
  pub by_column : (d n i j : ℕ) → 1 ≤ d → i < n → j < n → i % d < j % d → place d n i < place d n j
  pub by_row : (d n i j : ℕ) → 1 ≤ d → i < n → j < n → i % d ≡ j % d → i / d < j / d → place d n i < place d n j
  pub within : (d n i : ℕ) → 1 ≤ d → i < n → place d n i < n
  pub apart : (d n i j : ℕ) → 1 ≤ d → i < n → j < n → place d n i ≡ place d n j → i ≡ j
  pub sent_there : (d : ℕ) (text : List ℕ) (i : ℕ) → 1 ≤ d → i < length text
      → get_or (interleave d text) (place d (length text) i) 0 ≡ get_or text i 0

-- ---- the two calls

pub record Inverse : Type 0 where
  -- "the inverse restores every text, and spreading what the inverse gives returns it"
  pub restores : (d : ℕ) (text : List ℕ) → 1 ≤ d → deinterleave d (interleave d text) ≡ text
  pub returns : (d : ℕ) (line : List ℕ) → 1 ≤ d → interleave d (deinterleave d line) ≡ line

-- "the output holds each byte as often as the input": it is the input in another order
pub record SameBytes (f : ℕ → List ℕ → List ℕ) : Type 0 where
  pub permutation : (d : ℕ) (bytes : List ℕ) → 1 ≤ d → IsPermutation bytes (f d bytes)
  pub as_often : (d : ℕ) (bytes : List ℕ) (b : ℕ) → 1 ≤ d → count_by (λ x. x == b) (f d bytes) ≡ count_by (λ x. x == b) bytes
  pub as_many : (d : ℕ) (bytes : List ℕ) → 1 ≤ d → length (f d bytes) ≡ length bytes

-- "with d = 1, or d at least n, nothing changes"
pub record Unchanged (f : ℕ → List ℕ → List ℕ) : Type 0 where
  pub one_column : (bytes : List ℕ) → f 1 bytes ≡ bytes
  pub one_row : (d : ℕ) (bytes : List ℕ) → 1 ≤ d → length bytes ≤ d → f d bytes ≡ bytes

-- ---- neighbours

-- how far apart two places are
abbrev pub distance : ℕ → ℕ → ℕ
distance i j = (j - i) + (i - j)

-- "if d is at least 3 and n at least d, bytes that were neighbours stand at least n divided by d (rounded down) apart"
abbrev pub NeighboursApart : Type 0
NeighboursApart = (d n i : ℕ) → 3 ≤ d → d ≤ n → i + 1 < n → n / d ≤ distance (place d n i) (place d n (i + 1))

-- two lists differ at place i
abbrev pub DifferAt : List ℕ → List ℕ → ℕ → Type 0
DifferAt xs ys i = get_or xs i 0 ≡ get_or ys i 0 → ⊥

-- two lines differ only within `len` places in a row, from place k on: one burst
pub record Burst (len k : ℕ) (sent received : List ℕ) : Type 0 where
  pub as_long : length received ≡ length sent
  pub within : (p : ℕ) → DifferAt sent received p → (k ≤ p) × (p < k + len)

-- a burst of at most n divided by d bytes damages no two neighbours of the text
abbrev pub BurstSpread : Type 0
BurstSpread = (d k i : ℕ) (sent received : List ℕ) → 3 ≤ d → d ≤ length sent → Burst (length sent / d) k sent received → i + 1 < length sent
    → DifferAt (deinterleave d sent) (deinterleave d received) i → DifferAt (deinterleave d sent) (deinterleave d received) (i + 1) → ⊥

pub record Interleaving : Type 0 where
  pub places : Places
  pub inverse : Inverse
  pub same_bytes : SameBytes interleave
  pub same_bytes_back : SameBytes deinterleave
  pub unchanged : Unchanged interleave
  pub unchanged_back : Unchanged deinterleave
  pub neighbours_apart : NeighboursApart
  pub burst_spread : BurstSpread
