-- The ring of numbers and the ring of cells: each block has the next number and the next cell. Assumes nothing.
use Rattle.std.specs.Prelude.{ℕ, suc, ◌+◌, ◌-◌, ◌*◌, ◌%◌, ◌^◌, List, get_or, take, drop}
use Rattle.sender.specs.declared.Station.{Station}

-- from x, d + 1 steps back on a ring of m
unfoldable pub back : ℕ → ℕ → ℕ → ℕ
back m x d = (x + (m - suc d)) % m

-- the cell of the stored block with d blocks submitted after it
abbrev pub cell_at : ℕ → Station → ℕ → ℕ
cell_at w s d = back w s.cell d

-- the block in a cell
abbrev pub bytes_in : List ℕ → List ℕ → ℕ → List ℕ
bytes_in lengths store cell = take (get_or lengths cell 0) (drop (cell * 4096) store)

-- the bytes of the stored block with d blocks submitted after it
abbrev pub bytes_at : ℕ → Station → List ℕ → ℕ → List ℕ
bytes_at w s store d = bytes_in s.lengths store (cell_at w s d)

-- how many blocks were submitted after the one with this number
abbrev pub submitted_after : ℕ → Station → ℕ → ℕ
submitted_after n s number = back (2 ^ n) s.next number
