-- `joined_16` meets its contract: the check's number is the value of its bits. Assumes nothing.
use Rattle.std.proofs.Common.{rules, ap, ◌∙◌}
use Rattle.answers.specs.Numbers.{value_numbers}
use Rattle.join_answers.proofs.Values.{joined_value}
use Rattle.join_answers.proofs.joined_16.Goals as goal

pub returns-in-Ok : goal.returns-in-Ok
returns-in-Ok c = joined_value 16 c.in-Ok.check (search rules) c.in-Ok.is (c.numbers.ensures ∙ ap (value_numbers 0) c.from.ensures)
