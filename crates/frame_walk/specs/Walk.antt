-- The walk over the bits of a frame: questions 31 to 33 in turn (document 01, "Questions before a line is taken"), then what stands
-- between the flags. Assumes nothing.
use Rattle.std.specs.Prelude.{ℕ, ◌-◌, ◌*◌, Bool, cond, List, leb, length, take, drop, Result, Ok, Err}
use Rattle.bits.specs.Strings.{same}
use Rattle.bits.specs.Bytes.{bits_of, value}
use Rattle.cyclic.specs.Check.{Parameters, formula}
use Rattle.frame.specs.Stuffing.{Unstuffed, clean, missing, unstuff}
use Rattle.frame.specs.Frame.{flag}
use Rattle.frame.specs.Read.{between}
use Rattle.frame.specs.Answers.{read_number, read_value}
use Rattle.frame.specs.declared.ReadRefusal.{ReadRefusal}
use Rattle.frame_walk.specs.declared.Walk.{Walk}

-- the place of the closing flag, the number of bits of content and check, and the register of the check after them; or number and
-- value of a refusal
pub data Walked : Type 0 where
  closed : ℕ → ℕ → ℕ → Walked
  refused : ℕ → ℕ → Walked

abbrev pub of_walk : Result Walk ReadRefusal → Walked
of_walk (Ok w) = closed w.end w.count w.register
of_walk (Err r) = refused (read_number r) (read_value r)

abbrev pub ask : Bool → ℕ → ℕ → Walked → Walked
ask holds number value next = cond holds next (refused number value)

-- between the flags, a zero after every five ones? 33, with the place of the bit after them. The register holds the formula
unfoldable pub walk_zeros : Parameters → ℕ → Unstuffed → Walked
walk_zeros m end (missing p) = refused 33 p
walk_zeros m end (clean s) = closed end (length s) (value (formula m s))

-- at least 16 bits, first and last 8 a flag? 32
unfoldable pub walk_bits : Parameters → List Bool → Walked
walk_bits m frame =
    ask (leb 16 (length frame)) 32 0
    (ask (same (take 8 frame) flag) 32 0
    (ask (same (drop (length frame - 8) frame) flag) 32 0
    (walk_zeros m (length frame - 8) (unstuff 0 8 (between frame)))))

-- are as many bits lent as told? 31
unfoldable pub walk_of : Parameters → ℕ → List ℕ → Walked
walk_of m told lent = ask (leb told (8 * length lent)) 31 0 (walk_bits m (take told (bits_of lent)))
