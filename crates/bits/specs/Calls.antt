-- What a call answers, and the output that was lent to it, afterwards. Assumes nothing.
use Rattle.std.specs.Prelude.{ℕ, List}

pub record Call (Answer : Type 0) : Type 0 where
  pub answer : Answer
  pub output : List ℕ

abbrev pub called : {Answer : Type 0} → Answer → List ℕ → Call Answer
called answer output = record { answer = answer; output = output }
