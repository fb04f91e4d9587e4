-- What writing a frame, reading it back and comparing answer, by the rules of writing and reading. Assumes nothing.
use Rattle.std.specs.Prelude.{◌≡◌, ℕ, cond, Bool, true, false, List, leb, length, take, Result, Ok, Err}
use Rattle.bits.specs.Bytes.{bits_of, bytes_for}
use Rattle.cyclic.specs.Check.{Parameters}
use Rattle.frame.specs.Read as reading
use Rattle.frame.specs.Write as writing
use Rattle.frame.specs.Answers as answers
use Rattle.roundtrip.specs.Returns.{Returned, equal, different, refused, RoundTrip, returned}
use Rattle.frame.specs.declared.ReadRefusal.{ReadRefusal}
use Rattle.frame.specs.declared.WriteRefusal.{WriteRefusal}
use Rattle.roundtrip.specs.declared.RoundTripError.{RoundTripError}
use Rattle.roundtrip.specs.declared.RoundTripError.TheVariants.{NotWritten, NotRead}

-- what reading a written frame answers, of an output of `space` bytes
abbrev pub frame_back : ℕ → List ℕ → ℕ → reading.ReadAnswer
frame_back claimed lent space =
    cond (leb (bytes_for claimed) space) (reading.taken (take claimed (bits_of lent))) (reading.refusal 38 (bytes_for claimed))

-- of whether the content came back
abbrev pub of_frame_return : Result Bool (RoundTripError WriteRefusal ReadRefusal) → Returned
of_frame_return (Ok true) = equal
of_frame_return (Ok false) = different
of_frame_return (Err (NotWritten r)) = refused (answers.write_number r) (answers.write_value r)
of_frame_return (Err (NotRead r)) = refused (answers.read_number r) (answers.read_value r)

abbrev pub frame_answer : writing.WriteAnswer → reading.ReadAnswer → Returned
frame_answer (writing.refusal number value) read = refused number value
frame_answer (writing.written frame) (reading.refusal number value) = refused number value
frame_answer (writing.written frame) (reading.taken content) = equal

abbrev pub frame_output : writing.WriteAnswer → reading.ReadAnswer → List ℕ → List ℕ
frame_output (writing.refusal number value) read out = out
frame_output (writing.written frame) read out = reading.read_output read out

abbrev pub frame_trip : writing.WriteAnswer → reading.ReadAnswer → List ℕ → List ℕ → RoundTrip
frame_trip wrote read frame out = returned (frame_answer wrote read) (writing.write_output wrote frame) (frame_output wrote read out)

-- of the content's claimed bits, the lent frame and the lent output
abbrev pub frame_returns : Parameters → ℕ → List ℕ → List ℕ → List ℕ → RoundTrip
frame_returns m claimed lent frame out =
    frame_trip (writing.write_frame m claimed lent (length frame)) (frame_back claimed lent (length out)) frame out

-- as many bits were read as the content has, and the output starts with them
pub record ContentOf (claimed : ℕ) (lent : List ℕ) (read : ℕ) (out : List ℕ) : Type 0 where
  pub as_many : read ≡ claimed
  pub bits_read : take claimed (bits_of out) ≡ take claimed (bits_of lent)
