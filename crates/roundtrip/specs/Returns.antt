-- What writing, reading back and comparing answer, and what the line or frame and the output hold afterwards. Assumes nothing.
use Rattle.std.specs.Prelude.{ℕ, List}

-- what a round trip answers in numbers: a refusal is the writer's or the reader's, by its number
pub data Returned : Type 0 where
  equal different : Returned
  refused : ℕ → ℕ → Returned

-- the answer, and the lent line (or frame) and the lent output afterwards
pub record RoundTrip : Type 0 where
  pub answer : Returned
  pub line : List ℕ
  pub output : List ℕ

abbrev pub returned : Returned → List ℕ → List ℕ → RoundTrip
returned answer line output = record { answer = answer; line = line; output = output }
