-- Document 02's number for each case of the answers. Assumes nothing.
use Rattle.std.specs.Prelude.{ℕ, Result, Ok, Err}
use Rattle.interleave.specs.declared.InterleaveRefusal.{InterleaveRefusal}
use Rattle.interleave.specs.declared.InterleaveRefusal.TheVariants.{NoRows, OutputShort}
use Rattle.interleave.specs.Calls.{Verdict, clear, no}

abbrev pub number_of : InterleaveRefusal → ℕ
number_of NoRows = 59
number_of OutputShort = 60

abbrev pub verdict_of : Result Unit InterleaveRefusal → Verdict
verdict_of (Ok passed) = clear
verdict_of (Err r) = no (number_of r)
