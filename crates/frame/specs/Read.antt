-- Reading a frame: questions 31 to 33 and 35 to 38 in turn (document 01, "Questions before a line is taken"; document 02, card 13).
-- Assumes nothing.
use Rattle.std.specs.Prelude.{ℕ, ◌+◌, ◌-◌, ◌*◌, Bool, cond, List, ◌++◌, leb, length, take, drop}
use Rattle.std.proofs.Math.Seq.{slice}
use Rattle.bits.specs.Strings.{same}
use Rattle.bits.specs.Bytes.{bits_of, bytes_for, pack}
use Rattle.bits.specs.Differences.{set_from}
use Rattle.cyclic.specs.Check.{Parameters, check_bits}
use Rattle.frame.specs.Stuffing.{Unstuffed, clean, missing, unstuff, behind_five}
use Rattle.frame.specs.Frame.{width, limit_bits, flag}

-- content and check of a frame, the inserted zeros removed; or the number and value of a refusal
pub data Framed : Type 0 where
  found : List Bool → Framed
  unframed : ℕ → ℕ → Framed

-- a question: where its answer is no, the refusal; else what follows
abbrev pub ask : Bool → ℕ → ℕ → Framed → Framed
ask holds number value next = cond holds next (unframed number value)

-- at least 1 content bit? 35. Within the limit? 36
abbrev pub ask_length : Parameters → List Bool → Framed
ask_length m s =
    ask (leb (1 + width m) (length s)) 35 0
    (ask (leb (length s) (limit_bits m + width m)) 36 0
    (found s))

-- between the flags, a zero after every five ones? 33, with the place of the bit after them
abbrev pub ask_zeros : Parameters → Unstuffed → Framed
ask_zeros m (missing p) = unframed 33 p
ask_zeros m (clean s) = ask_length m s

-- the bits between the flags, from the place 8 on
abbrev pub between : List Bool → List Bool
between frame = slice 8 (length frame - 8) frame

-- 32 to 36, of the told bits. At least 16 bits, first and last 8 a flag? 32
unfoldable pub framed : Parameters → List Bool → Framed
framed m frame =
    ask (leb 16 (length frame)) 32 0
    (ask (same (take 8 frame) flag) 32 0
    (ask (same (drop (length frame - 8) frame) flag) 32 0
    (ask_zeros m (unstuff 0 8 (between frame)))))

-- a frame has a framing where 31 to 36 are all passed: the places of its inserted zeros
pub data Framing : Type 0 where
  none : Framing
  framing : List ℕ → Framing

abbrev pub framing_by : List Bool → Framed → Framing
framing_by frame (found s) = framing (set_from 8 (behind_five 0 (between frame)))
framing_by frame (unframed number value) = none

unfoldable pub framing_of : Parameters → List Bool → Framing
framing_of m frame = framing_by frame (framed m frame)

-- the content, and the check behind it
abbrev pub content_of : Parameters → List Bool → List Bool
content_of m s = take (length s - width m) s

abbrev pub check_in : Parameters → List Bool → List Bool
check_in m s = drop (length s - width m) s

-- the content's bits; or the number and value of a refusal
pub data ReadAnswer : Type 0 where
  taken : List Bool → ReadAnswer
  refusal : ℕ → ℕ → ReadAnswer

-- 37 and 38, of an output of `room` bytes
abbrev pub ask_check : Parameters → ℕ → Framed → ReadAnswer
ask_check m room (unframed number value) = refusal number value
ask_check m room (found s) =
    cond (same (check_in m s) (check_bits m (content_of m s)))
    (cond (leb (bytes_for (length (content_of m s))) room) (taken (content_of m s)) (refusal 38 (bytes_for (length (content_of m s)))))
    (refusal 37 0)

-- 32 to 38, of the told bits
unfoldable pub read_bits : Parameters → List Bool → ℕ → ReadAnswer
read_bits m frame room = ask_check m room (framed m frame)

-- the frame is the told number of bits of the bytes lent; the rest is no part of it. Are there as many? 31
unfoldable pub read_frame : Parameters → ℕ → List ℕ → ℕ → ReadAnswer
read_frame m told lent room = cond (leb told (8 * length lent)) (read_bits m (take told (bits_of lent)) room) (refusal 31 0)

-- the output afterwards: the content, the spare high bits of its last byte zero, then what stood there; after a refusal all of
-- what stood there
unfoldable pub read_output : ReadAnswer → List ℕ → List ℕ
read_output (taken content) out = pack content ++ drop (bytes_for (length content)) out
read_output (refusal number value) out = out
