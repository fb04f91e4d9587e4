-- The code goes over the line column by column. Where these begin, and what is stored before it comes to place k. Assumes nothing.
use Rattle.std.specs.Prelude.{◌≡◌, ℕ, ◌+◌, ◌-◌, ◌*◌, ◌/◌, ◌%◌, ◌<◌, ◌≤◌, min, List, length, drop, get_or}
use Rattle.std.proofs.lemmas.List.Edits.{sets}
use Rattle.interleave.specs.Interleave.{interleave, place}

-- the length of column c of n bytes: each column has n / d bytes, and the first n % d have one more
abbrev pub size : ℕ → ℕ → ℕ → ℕ
size d n c = n / d + min 1 (n % d - c)

-- where column c begins on the line
unfoldable pub start : ℕ → ℕ → ℕ → ℕ
start d n c = c * (n / d) + min c (n % d)

-- the places before k of the line of a text are stored: those that are left give the whole
pub record Sent (d : ℕ) (text before after : List ℕ) (k : ℕ) : Type 0 where
  pub same : length after ≡ length before
  pub left : sets after k (drop k (interleave d text)) ≡ sets before 0 (interleave d text)

-- the bytes from the places before k of a line stand where they stood in the text, and nothing behind the text is changed
pub record Returned (d : ℕ) (line before after : List ℕ) (k : ℕ) : Type 0 where
  pub same : length after ≡ length before
  pub stored : (i : ℕ) → i < length line → place d (length line) i < k → get_or after i 0 ≡ get_or line (place d (length line) i) 0
  pub kept : (i : ℕ) → length line ≤ i → get_or after i 0 ≡ get_or before i 0
