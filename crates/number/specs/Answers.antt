-- Document 01's number and values for each case of the answer, and the number of a verdict. Assumes nothing.
use Rattle.std.specs.Prelude.{ℕ, Result, Ok, Err}
use Rattle.number.specs.declared.NumberRefusal.{NumberRefusal}
use Rattle.number.specs.declared.NumberRefusal.TheVariants as refusal
use Rattle.number.specs.declared.Verdict as answer
use Rattle.number.specs.declared.Verdict.TheVariants.{New, Repeat, Lost}
use Rattle.number.specs.declared.NumberResult.{NumberResult}
use Rattle.number.specs.Number.{Verdict, new, repeat, lost, refused, Outcome}

abbrev pub number_of : NumberRefusal → ℕ
number_of refusal.Modulus = 41
number_of refusal.Window = 51
number_of refusal.Awaited = 42
number_of refusal.Received = 43

-- as the C library and the programs answer it
abbrev pub verdict_number : answer.Verdict → ℕ
verdict_number New = 1
verdict_number Repeat = 2
verdict_number Lost = 3

abbrev pub verdict_of : Result answer.Verdict NumberRefusal → Verdict
verdict_of (Ok New) = new
verdict_of (Ok Repeat) = repeat
verdict_of (Ok Lost) = lost
verdict_of (Err r) = refused (number_of r)

abbrev pub outcome_of : NumberResult → Outcome
outcome_of r = record { verdict = verdict_of r.answer; n = r.after.n; w = r.after.w; c = r.after.c }
