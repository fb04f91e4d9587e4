-- The numbers of an answer as a caller in C gets them: 0 for success or the refusal's number, and the values. Assumes nothing.
use Rattle.std.specs.Prelude.{ℕ, zero, suc, List, [], ◌∷◌}
use Rattle.block.specs.Answers as block
use Rattle.frame.specs.Answers as frame
use Rattle.number.specs.Number.{Verdict, new, repeat, lost, refused}
use Rattle.answers.specs.declared.BlockNumbers.{BlockNumbers}
use Rattle.answers.specs.declared.ValueNumbers.{ValueNumbers}
use Rattle.answers.specs.declared.VerdictNumbers.{VerdictNumbers}

-- ---- blocks

abbrev pub block_number : block.Numbers → ℕ
block_number (block.block shape end header text counted) = 0
block_number (block.line bytes) = 0
block_number (block.refused number value) = number

-- what an accepted block holds; the length of a line; a refusal's value
abbrev pub block_values : block.Numbers → List ℕ
block_values (block.block shape end header text counted) = shape ∷ end ∷ header ∷ text ∷ counted ∷ []
block_values (block.line bytes) = bytes ∷ []
block_values (block.refused number value) = value ∷ []

-- the first `places` values, with zeros where there are fewer
abbrev pub padded : ℕ → List ℕ → List ℕ
padded zero values = []
padded (suc places) [] = 0 ∷ padded places []
padded (suc places) (value ∷ values) = value ∷ padded places values

abbrev pub read_numbers : block.Numbers → BlockNumbers
read_numbers answer = record { number = block_number answer; values = padded 5 (block_values answer) }

abbrev pub value_numbers : ℕ → ℕ → ValueNumbers
value_numbers number value = record { number = number; value = value }

-- the length of a line; what a block holds is no answer to writing
abbrev pub written_value : block.Numbers → ℕ
written_value (block.block shape end header text counted) = 0
written_value (block.line bytes) = bytes
written_value (block.refused number value) = value

abbrev pub written_numbers : block.Numbers → ValueNumbers
written_numbers answer = value_numbers (block_number answer) (written_value answer)

-- ---- frames

-- the bits of a written frame; those of a content; a refusal's value
abbrev pub frame_numbers : frame.Numbers → ValueNumbers
frame_numbers (frame.frame bits) = value_numbers 0 bits
frame_numbers (frame.content bits) = value_numbers 0 bits
frame_numbers (frame.refused number value) = value_numbers number value

-- ---- numbers

-- 1 new, 2 repeat, 3 lost; 0 where it was refused
abbrev pub verdict_numbers : Verdict → VerdictNumbers
verdict_numbers new = record { number = 0; verdict = 1 }
verdict_numbers repeat = record { number = 0; verdict = 2 }
verdict_numbers lost = record { number = 0; verdict = 3 }
verdict_numbers (refused number) = record { number = number; verdict = 0 }
