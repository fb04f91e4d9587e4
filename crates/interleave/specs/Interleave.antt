-- Interleaving: the n bytes of a text are laid in rows of d and sent by columns (document 02, card 8). Byte i stands in row i / d and
-- in column i % d. Assumes nothing.
use Rattle.std.specs.Prelude.{ℕ, ◌%◌, ◌==◌, List, length, map, get_or}
use Rattle.std.specs.List.{filter, flat_map, position_or_len, range_with_len}

-- the bytes of column c, from the first row on
unfoldable pub column : ℕ → ℕ → ℕ → List ℕ
column d n c = filter (λ i. i % d == c) (range_with_len 0 n)

-- every byte in the order in which it is sent: the columns one after the other
unfoldable pub order : ℕ → ℕ → List ℕ
order d n = flat_map (column d n) (range_with_len 0 d)

-- the line of a text
unfoldable pub interleave : ℕ → List ℕ → List ℕ
interleave d text = map (λ i. get_or text i 0) (order d (length text))

-- the place of byte i on the line: where it stands in that order
unfoldable pub place : ℕ → ℕ → ℕ → ℕ
place d n i = position_or_len (λ k. k == i) (order d n)

-- the text of a line: byte i is the one at its place
unfoldable pub deinterleave : ℕ → List ℕ → List ℕ
deinterleave d line = map (λ i. get_or line (place d (length line) i) 0) (range_with_len 0 (length line))
