-- The numbers of a fixed block's answer as a caller in C gets them. Assumes nothing.
use Rattle.answers.specs.declared.ValueNumbers.{ValueNumbers}
use Rattle.answers.specs.Numbers.{value_numbers}
use Rattle.fixed_block.specs.Block.{Answer, done, refused}

-- the bytes of the block or of the content; a refusal's value
abbrev pub fixed_numbers : Answer → ValueNumbers
fixed_numbers (done length) = value_numbers 0 length
fixed_numbers (refused number value) = value_numbers number value
