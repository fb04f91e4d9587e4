-- A list of received numbers, one after the other. Assumes nothing.
use Rattle.std.specs.Prelude.{◌≡◌, ℕ, zero, suc, ◌+◌, ◌%◌, ◌^◌, List, [], ◌∷◌}
use Rattle.number.specs.declared.NumberRecord.{NumberRecord}
use Rattle.number.specs.declared.NumberResult.{NumberResult}
use Rattle.number.specs.Number.{Verdict, new, repeat, lost, refused, Outcome, receiving}
use Rattle.number.specs.Answers.{outcome_of}

-- the rule's outcome at every step, each from the record that the step before left
unfoldable pub history : ℕ → ℕ → ℕ → List ℕ → List Outcome
history n w c [] = []
history n w c (b ∷ bs) = receiving n w c b ∷ history n w (receiving n w c b).c bs

-- how many of the outcomes are new
abbrev pub is_new : Verdict → ℕ
is_new new = 1
is_new repeat = 0
is_new lost = 0
is_new (refused number) = 0

abbrev pub count_new : List Outcome → ℕ
count_new [] = 0
count_new (o ∷ os) = is_new o.verdict + count_new os

-- k numbers in sequence from c on
abbrev pub in_sequence : ℕ → ℕ → ℕ → List ℕ
in_sequence n c zero = []
in_sequence n c (suc k) = c ∷ in_sequence n ((c + 1) % 2 ^ n) k

-- results of `receive` as its contract promises them, each call given the record that the call before returned
pub data Calls : NumberRecord → List ℕ → List NumberResult → Type 0 where
  none : {held : NumberRecord} → Calls held [] []
  call : {held : NumberRecord} {bs : List ℕ} {rs : List NumberResult} (b : ℕ) (r : NumberResult)
      → outcome_of r ≡ receiving held.n held.w held.c b → Calls r.after bs rs → Calls held (b ∷ bs) (r ∷ rs)
