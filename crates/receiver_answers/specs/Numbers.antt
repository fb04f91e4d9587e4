-- The numbers of a receiver's answers as a caller in C gets them. Assumes nothing.
use Rattle.std.specs.Prelude.{ℕ, ◌∷◌, []}
use Rattle.block.specs.Answers as block
use Rattle.answers.specs.Numbers.{block_number, block_values, padded}
use Rattle.receiver.specs.Receiver.{OrderAnswer, noted, not_noted}
use Rattle.receiver.specs.Answers.{TellNumbers, repeat_told, lost_told, read_told}
use Rattle.receiver_answers.specs.declared.ToldNumbers.{ToldNumbers}

-- 0, or a refusal's number
abbrev pub order_number : OrderAnswer → ℕ
order_number noted = 0
order_number (not_noted number) = number

-- 1 for a new block whose line was taken, 0 for a refusal
abbrev pub verdict_read : block.Numbers → ℕ
verdict_read (block.block shape end header text counted) = 1
verdict_read (block.line bytes) = 0
verdict_read (block.refused number value) = 0

-- 1 new, 2 repeat, 3 lost or 0, then what an accepted block holds, or a refusal's value and zeros
abbrev pub told_numbers : TellNumbers → ToldNumbers
told_numbers repeat_told = record { number = 0; values = 2 ∷ padded 5 [] }
told_numbers lost_told = record { number = 0; values = 3 ∷ padded 5 [] }
told_numbers (read_told answer) = record { number = block_number answer; values = verdict_read answer ∷ padded 5 (block_values answer) }
