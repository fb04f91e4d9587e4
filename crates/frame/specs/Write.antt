-- Writing a frame: questions 66 and 21 to 23 in turn (document 01, "Questions before a line is taken"; document 02, card 13).
-- Assumes nothing.
use Rattle.std.specs.Prelude.{ℕ, ◌*◌, Bool, cond, List, ◌++◌, leb, length, take, drop}
use Rattle.bits.specs.Bytes.{bits_of, bytes_for, pack}
use Rattle.cyclic.specs.Check.{Parameters}
use Rattle.frame.specs.Frame.{limit_bits, frame_of}

-- the bits of the frame; or the number and value of a refusal
pub data WriteAnswer : Type 0 where
  written : List Bool → WriteAnswer
  refusal : ℕ → ℕ → WriteAnswer

abbrev pub ask : Bool → ℕ → ℕ → WriteAnswer → WriteAnswer
ask holds number value next = cond holds next (refusal number value)

-- does an output of `room` bytes hold the frame? 23
abbrev pub ask_room : List Bool → ℕ → WriteAnswer
ask_room frame room = ask (leb (bytes_for (length frame)) room) 23 (bytes_for (length frame)) (written frame)

-- 21 to 23, of the content's bits. At least 1 bit? 21. Within the method's limit? 22
unfoldable pub write_bits : Parameters → List Bool → ℕ → WriteAnswer
write_bits m content room =
    ask (leb 1 (length content)) 21 0
    (ask (leb (length content) (limit_bits m)) 22 0
    (ask_room (frame_of m content) room))

-- the content is the claimed number of bits of the bytes lent; the rest is no part of it. Are there as many? 66
unfoldable pub write_frame : Parameters → ℕ → List ℕ → ℕ → WriteAnswer
write_frame m claimed lent room = ask (leb claimed (8 * length lent)) 66 0 (write_bits m (take claimed (bits_of lent)) room)

-- the output afterwards: the frame, the spare high bits of its last byte zero, then what stood there; after a refusal all of
-- what stood there
unfoldable pub write_output : WriteAnswer → List ℕ → List ℕ
write_output (written frame) out = pack frame ++ drop (bytes_for (length frame)) out
write_output (refusal number value) out = out
