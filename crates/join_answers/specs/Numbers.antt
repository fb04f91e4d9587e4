-- The numbers of a joined check as a caller in C gets them. Assumes nothing.
use Rattle.bits.specs.Bytes.{value}
use Rattle.answers.specs.declared.ValueNumbers.{ValueNumbers}
use Rattle.answers.specs.Numbers.{value_numbers}
use Rattle.joining.specs.Joining.{Answer, check, refused}

-- the number whose bits the joined check is; a refusal's value
abbrev pub join_numbers : Answer → ValueNumbers
join_numbers (check bits) = value_numbers 0 (value bits)
join_numbers (refused number carried) = value_numbers number carried
