-- Frames that end inside a byte (document 02, card 13): contents of whole bytes keep their frames, answers and framings; 34 is the
-- answer of no frame; contents have from 1 bit to the limit, and the spare bits of their last byte change nothing. Assumes nothing.
use Rattle.std.specs.Prelude.{◌≡◌, ℕ, ◌+◌, ◌-◌, ◌*◌, ◌%◌, ◌≤◌, Bool, true, cond, List, [], ◌∷◌, ◌++◌, leb, eqb, length, take, drop}
use Rattle.bits.specs.Strings.{same, zeros}
use Rattle.bits.specs.Bytes.{bits_of, bytes_for}
use Rattle.cyclic.specs.Check.{Parameters, method5, method6}
use Rattle.frame.specs.Stuffing.{Unstuffed, clean, missing, unstuff}
use Rattle.frame.specs.Frame.{width, flag, frame_of}
use Rattle.frame.specs.Read as reads
use Rattle.frame.specs.Write as writes
use Rattle.guarantees.specs.Lines.{is_one_of}
use Rattle.guarantees.specs.Frames.{Accepted, checked_bits, number_of}

-- ---- the rules before the card, of document 01

-- at least 1 byte? 21. Within the method's limit? 22
abbrev pub write_of_bytes : Parameters → List ℕ → ℕ → writes.WriteAnswer
write_of_bytes m content room =
    writes.ask (leb 1 (length content)) 21 0
    (writes.ask (leb (length content) m.limit) 22 0
    (writes.ask_room (frame_of m (bits_of content)) room))

-- a multiple of 8 left? 34. At least 1 content byte? 35. Within the limit? 36
abbrev pub ask_length_of_bytes : Parameters → List Bool → reads.Framed
ask_length_of_bytes m s =
    reads.ask (eqb (length s % 8) 0) 34 0
    (reads.ask (leb (8 + width m) (length s)) 35 0
    (reads.ask (leb (length s) (8 * m.limit + width m)) 36 0
    (reads.found s)))

abbrev pub ask_zeros_of_bytes : Parameters → Unstuffed → reads.Framed
ask_zeros_of_bytes m (missing p) = reads.unframed 33 p
ask_zeros_of_bytes m (clean s) = ask_length_of_bytes m s

abbrev pub framed_of_bytes : Parameters → List Bool → reads.Framed
framed_of_bytes m frame =
    reads.ask (leb 16 (length frame)) 32 0
    (reads.ask (same (take 8 frame) flag) 32 0
    (reads.ask (same (drop (length frame - 8) frame) flag) 32 0
    (ask_zeros_of_bytes m (unstuff 0 8 (reads.between frame)))))

abbrev pub framing_of_bytes : Parameters → List Bool → reads.Framing
framing_of_bytes m frame = reads.framing_by frame (framed_of_bytes m frame)

abbrev pub read_bits_of_bytes : Parameters → List Bool → ℕ → reads.ReadAnswer
read_bits_of_bytes m frame room = reads.ask_check m room (framed_of_bytes m frame)

abbrev pub read_frame_of_bytes : Parameters → ℕ → List ℕ → ℕ → reads.ReadAnswer
read_frame_of_bytes m told lent room =
    cond (leb told (8 * length lent)) (read_bits_of_bytes m (take told (bits_of lent)) room) (reads.refusal 31 0)

-- ---- what is said of them

abbrev pub Was34 : reads.ReadAnswer → Type 0
Was34 answer = number_of answer ≡ 34

-- taken, or 35, 36, 37 or 38
abbrev pub TakenOrLater : reads.ReadAnswer → Type 0
TakenOrLater (reads.taken content) = Unit
TakenOrLater (reads.refusal number value) = is_one_of (35 ∷ 36 ∷ 37 ∷ 38 ∷ []) number ≡ true

-- of a method: the answers that were not 34 are the same, of the told bits of a frame and of the bytes lent to reading
pub record KeepsReading (m : Parameters) : Type 0 where
  -- number and value, the needed bytes of 38 too, and the content: the rules have its bits, of which the call answered the bytes
  pub same_answer : (frame : List Bool) (room : ℕ) → (Was34 (read_bits_of_bytes m frame room) → ⊥)
      → reads.read_bits m frame room ≡ read_bits_of_bytes m frame room
  pub same_lent : (told : ℕ) (lent : List ℕ) (room : ℕ) → (Was34 (read_frame_of_bytes m told lent room) → ⊥)
      → reads.read_frame m told lent room ≡ read_frame_of_bytes m told lent room
  pub same_framing : (frame : List Bool) (room : ℕ) → (Was34 (read_bits_of_bytes m frame room) → ⊥)
      → reads.framing_of m frame ≡ framing_of_bytes m frame
  -- so what is taken with a content of whole bytes was taken with it
  pub same_content : (frame content : List Bool) (room : ℕ) → reads.read_bits m frame room ≡ reads.taken content → length content % 8 ≡ 0
      → read_bits_of_bytes m frame room ≡ reads.taken content
  -- "Number 34 is retired": what had it goes on to the later questions
  pub was_34 : (frame : List Bool) (room : ℕ) → Was34 (read_bits_of_bytes m frame room) → TakenOrLater (reads.read_bits m frame room)
  pub lent_was_34 : (told : ℕ) (lent : List ℕ) (room : ℕ) → Was34 (read_frame_of_bytes m told lent room)
      → TakenOrLater (reads.read_frame m told lent room)

pub record WholeBytes : Type 0 where
  -- "Whole-byte frames give their old wire bits", and their old refusals
  pub same_writing : (m : Parameters) (content : List ℕ) (room : ℕ)
      → writes.write_frame m (8 * length content) content room ≡ write_of_bytes m content room
  pub keeps_reading_5 : KeepsReading method5
  pub keeps_reading_6 : KeepsReading method6
  -- 34 is the answer of no frame
  pub never_34 : (m : Parameters) (frame : List Bool) (room : ℕ) → number_of (reads.read_bits m frame room) ≡ 34 → ⊥
  pub lent_never_34 : (m : Parameters) (told : ℕ) (lent : List ℕ) (room : ℕ) → number_of (reads.read_frame m told lent room) ≡ 34 → ⊥

-- ---- any number of bits

-- "21 and 35 require at least 1 bit; 22 and 36 become 32,768 bits for method 5, 524,288 for method 6": of a method with contents of at
-- most so many bits, and frames of at most so many checked bits
pub record ContentBits (m : Parameters) (most checked : ℕ) : Type 0 where
  pub written : (claimed : ℕ) (lent : List ℕ) (frame : List Bool) (room : ℕ) → writes.write_frame m claimed lent room ≡ writes.written frame
      → (1 ≤ claimed) × (claimed ≤ most)
  pub taken : (frame content : List Bool) (room : ℕ) → reads.read_bits m frame room ≡ reads.taken content
      → (1 ≤ length content) × (length content ≤ most)
  pub accepted : (frame : List Bool) → Accepted m frame → length (checked_bits m frame) ≤ checked

pub record AnyBits : Type 0 where
  -- numbered from 0, the last checked bit is number 32,783, or 524,319: as far as whole bytes reach
  pub bits_5 : ContentBits method5 32768 32784
  pub bits_6 : ContentBits method6 524288 524320
  -- bits of the last content byte above the claimed ones, and bytes behind it, change nothing
  pub spare_ignored : (m : Parameters) (claimed : ℕ) (x y : List ℕ) (room : ℕ) → claimed ≤ 8 * length x → claimed ≤ 8 * length y
      → take claimed (bits_of x) ≡ take claimed (bits_of y) → writes.write_frame m claimed x room ≡ writes.write_frame m claimed y room
  -- "Reading leaves spare high bits of the last output byte zero"
  pub spare_zero : (content : List Bool) (out : List ℕ)
      → bits_of (take (bytes_for (length content)) (reads.read_output (reads.taken content) out))
      ≡ content ++ zeros (8 * bytes_for (length content) - length content)
