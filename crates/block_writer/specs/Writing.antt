-- The last question of writing. Assumes nothing.
use Rattle.std.specs.Prelude.{ℕ, List, leb, length}
use Rattle.block.specs.Write.{WriteAnswer, written, ask}

-- question 6 of a line, in an output of `room` bytes
abbrev pub ask_room : List ℕ → ℕ → WriteAnswer
ask_room line room = ask (leb (length line) room) 6 (length line) (written line)
