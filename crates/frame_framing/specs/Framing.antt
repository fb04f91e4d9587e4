-- The framing of a frame as the reader finds it: questions 31 to 33, 35 and 36, and question 37 put beforehand. Assumes nothing.
use Rattle.std.specs.Prelude.{ℕ, ◌-◌, ◌*◌, Bool, cond, List, leb, length, take, Result, Ok, Err}
use Rattle.bits.specs.Strings.{same}
use Rattle.bits.specs.Bytes.{bits_of}
use Rattle.cyclic.specs.Check.{Parameters, check_bits}
use Rattle.frame.specs.Read as rule
use Rattle.frame.specs.Answers.{read_number, read_value}
use Rattle.frame.specs.declared.ReadRefusal.{ReadRefusal}
use Rattle.frame_framing.specs.declared.Body.{Body}

-- the place of the closing flag, the number of bits of content and check, and whether the check is right; or number and value of a
-- refusal
pub data FramingAnswer : Type 0 where
  found : ℕ → ℕ → Bool → FramingAnswer
  unframed : ℕ → ℕ → FramingAnswer

abbrev pub of_framing : Result Body ReadRefusal → FramingAnswer
of_framing (Ok b) = found b.end b.count b.right
of_framing (Err r) = unframed (read_number r) (read_value r)

-- 32, 33, 35 and 36
abbrev pub answer_of : Parameters → ℕ → rule.Framed → FramingAnswer
answer_of m end (rule.found s) = found end (length s) (same (rule.check_in m s) (check_bits m (rule.content_of m s)))
answer_of m end (rule.unframed number value) = unframed number value

-- of the told bits; are there as many? 31
unfoldable pub framing_answer : Parameters → ℕ → List ℕ → FramingAnswer
framing_answer m told lent =
    let frame = take told (bits_of lent) in
    cond (leb told (8 * length lent)) (answer_of m (length frame - 8) (rule.framed m frame)) (unframed 31 0)
