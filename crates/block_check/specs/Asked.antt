-- What follows questions 18 and 54. Assumes nothing.
use Rattle.std.specs.Prelude.{Result, Ok, Err}
use Rattle.block.specs.declared.ReadRefusal.{ReadRefusal}
use Rattle.block.specs.Read.{ReadAnswer, refusal}
use Rattle.block.specs.Answers.{read_number, read_value}

-- what code answered
abbrev pub after_asked : Result Unit ReadRefusal → ReadAnswer → ReadAnswer
after_asked (Ok passed) next = next
after_asked (Err r) next = refusal (read_number r) (read_value r)
