-- Document 02's number for each case of the answer. Assumes nothing.
use Rattle.std.specs.Prelude.{ℕ, Bool, List, Result, Ok, Err}
use Rattle.joining.specs.declared.JoinRefusal.{JoinRefusal}
use Rattle.joining.specs.declared.JoinRefusal.TheVariants.{TooLong}
use Rattle.joining.specs.Joining.{Answer, check, refused}

abbrev pub number_of : JoinRefusal → ℕ
number_of TooLong = 63

-- where a check's number has these bits
abbrev pub answer_of : {Number : Type 0} → (Number → List Bool) → Result Number JoinRefusal → Answer
answer_of bits (Ok joined) = check (bits joined)
answer_of bits (Err r) = refused (number_of r) 0
