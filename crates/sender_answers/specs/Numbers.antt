-- The numbers of a sender's answer as a caller in C gets them. Assumes nothing.
use Rattle.answers.specs.declared.ValueNumbers.{ValueNumbers}
use Rattle.answers.specs.Numbers.{value_numbers}
use Rattle.sender.specs.Sender.{Answer, done, refused}

-- a block's or an order's number, or how many blocks were freed; a refusal's value
abbrev pub sender_numbers : Answer → ValueNumbers
sender_numbers (done value) = value_numbers 0 value
sender_numbers (refused number value) = value_numbers number value
