-- The starred rows of document 01, "Lines to try", and of document 02: what is put to the rules, and what they are to answer. Assumes nothing.
use Rattle.std.specs.Prelude.{ℕ, Bool, true, false, ◌&&◌, List, [], ◌∷◌, map, eqb, length}
use Rattle.bits.specs.Bytes.{pack}
use Rattle.bits.specs.Differences.{differing_bits}
use Rattle.cyclic.specs.Check.{Parameters, method5}
use Rattle.number.specs.Number.{Verdict, repeat, lost, Outcome}
use Rattle.number.specs.History.{history}
use Rattle.block.specs.declared.Method.{Method}
use Rattle.block.specs.declared.Method.TheVariants.{Matrix, Cyclic, CyclicAlternative}
use Rattle.block.specs.declared.Method.TheVariants as method
use Rattle.block.specs.declared.Parity.{Parity}
use Rattle.block.specs.declared.Parity.TheVariants.{Even, Odd}
use Rattle.block.specs.declared.Shape.{Shape}
use Rattle.block.specs.declared.Shape.TheVariants as shape
use Rattle.block.specs.declared.EndSign.{EndSign}
use Rattle.block.specs.declared.EndSign.TheVariants.{Etx, Etb}
use Rattle.block.specs.Signs.{koi7, dkoi}
use Rattle.block.specs.Marks.{LeftOutByte}
use Rattle.block.specs.Read.{Framing, none, framing, framing_of, ReadAnswer, taken, refusal, read_block}
use Rattle.frame.specs.Read.{Framed, found, unframed, framed, check_in}
use Rattle.frame.specs.Write as frames

-- what is put to a rule: a line to read, in KOI-7 or in DKOI; a line to read and to compare with row 1, both in KOI-7; the claimed
-- bits and the bytes lent to write a frame of; n, w, c and the numbers received in turn
pub data Row : Type 0 where
  read : Method → Parity → List ℕ → Row
  read_dkoi : Method → Parity → List ℕ → Row
  compare : Method → Parity → List ℕ → Row
  write : Parameters → ℕ → List ℕ → Row
  receive : ℕ → ℕ → ℕ → List ℕ → Row

-- what it answers: to a comparison also the number of differing bits and whether the framings are one; of a written frame the
-- check in it and its number of bits
pub data Result : Type 0 where
  block : ReadAnswer → Result
  compared : ReadAnswer → ℕ → Bool → Result
  frame : List ℕ → ℕ → Result
  refused : ℕ → ℕ → Result
  received : List Verdict → Result

-- ---- the rules, put to a row

-- output enough for every row
abbrev pub room : ℕ
room = 16

abbrev pub same_bytes : List LeftOutByte → List LeftOutByte → Bool
same_bytes [] [] = true
same_bytes [] (y ∷ ys) = false
same_bytes (x ∷ xs) [] = false
same_bytes (x ∷ xs) (y ∷ ys) = eqb x.place y.place && eqb x.value y.value && same_bytes xs ys

abbrev pub same_framing : Framing → Framing → Bool
same_framing none none = true
same_framing none (framing ys) = false
same_framing (framing xs) none = false
same_framing (framing xs) (framing ys) = same_bytes xs ys

abbrev pub row1 : List ℕ
row1 = 0x82 ∷ 0x41 ∷ 0x03 ∷ 0x42 ∷ []

-- the check of what stands between the flags of a frame, its inserted zeros removed
abbrev pub check_found : Parameters → Framed → List ℕ
check_found m (found s) = pack (check_in m s)
check_found m (unframed number value) = []

-- a written frame by the check in its bits and by their number
abbrev pub frame_result : Parameters → frames.WriteAnswer → Result
frame_result m (frames.written bits) = frame (check_found m (framed m bits)) (length bits)
frame_result m (frames.refusal number value) = refused number value

abbrev pub result_of : Row → Result
result_of (read m p line) = block (read_block koi7 m p line room)
result_of (read_dkoi m p line) = block (read_block dkoi m p line room)
result_of (compare m p line) = compared (read_block koi7 m p line room) (length (differing_bits row1 line)) (same_framing (framing_of koi7 m p row1) (framing_of koi7 m p line))
result_of (write m claimed lent) = frame_result m (frames.write_frame m claimed lent room)
result_of (receive n w c bs) = received (map (λ (o : Outcome). o.verdict) (history n w c bs))

-- ---- the table

abbrev pub rows : List Row
rows =
    -- 1 to 4
    read Matrix Even row1
    ∷ read Matrix Odd (0x02 ∷ 0xC1 ∷ 0x83 ∷ 0xC2 ∷ [])
    ∷ read Matrix Even (0x82 ∷ 0x96 ∷ 0x41 ∷ 0x96 ∷ 0x03 ∷ 0x42 ∷ [])
    ∷ read Matrix Even (0x81 ∷ 0x48 ∷ 0x82 ∷ 0xD4 ∷ 0x17 ∷ 0x09 ∷ [])
    -- 5 and 6
    ∷ compare Matrix Even (0x82 ∷ 0x42 ∷ 0x03 ∷ 0x41 ∷ [])
    ∷ compare Matrix Even (0x81 ∷ 0x41 ∷ 0x03 ∷ 0x42 ∷ [])
    -- 7 to 10
    ∷ read CyclicAlternative Even (0x02 ∷ 0x03 ∷ 0x40 ∷ 0x01 ∷ [])
    ∷ read Cyclic Even (0x02 ∷ 0x03 ∷ 0xE3 ∷ 0xC2 ∷ [])
    ∷ read Cyclic Even (0x02 ∷ 0x03 ∷ 0xE3 ∷ 0xC3 ∷ [])
    ∷ read Matrix Even (0x82 ∷ 0x41 ∷ 0x03 ∷ [])
    -- a byte behind the end sign of method 1 (document 02, card 3)
    ∷ read method.Parity Even (0x82 ∷ 0x41 ∷ 0x03 ∷ 0x42 ∷ [])
    -- row 1's line under method 7 (document 02, card 5): as it is written, with another diagonal character, with another row check
    ∷ read method.Diagonal Even (0x82 ∷ 0x41 ∷ 0x03 ∷ 0x42 ∷ 0x05 ∷ [])
    ∷ read method.Diagonal Even (0x82 ∷ 0x41 ∷ 0x03 ∷ 0x42 ∷ 0x06 ∷ [])
    ∷ read method.Diagonal Even (0x82 ∷ 0x41 ∷ 0x03 ∷ 0x41 ∷ 0x06 ∷ [])
    -- DKOI (document 02, card 7): fill 32 inside a header that 26 ends; 16 and 17 as data; method 2
    ∷ read_dkoi Cyclic Even (0x01 ∷ 0x48 ∷ 0x32 ∷ 0x49 ∷ 0x26 ∷ 0x32 ∷ 0xD3 ∷ [])
    ∷ read_dkoi Cyclic Even (0x02 ∷ 0x16 ∷ 0x17 ∷ 0x41 ∷ 0x03 ∷ 0x50 ∷ 0x10 ∷ [])
    ∷ read_dkoi Matrix Even row1
    -- 11 and 12
    ∷ write method5 8 (0xFF ∷ [])
    ∷ write method5 16 (0xFF ∷ 0xFF ∷ [])
    -- contents that end inside a byte (document 02, card 13): 1, 7 and 9 bits; 9 bits with the spare bits of the last byte set; a bit
    -- claimed of no byte, and no bit
    ∷ write method5 1 (0x00 ∷ [])
    ∷ write method5 7 (0x7F ∷ [])
    ∷ write method5 9 (0xFF ∷ 0x01 ∷ [])
    ∷ write method5 9 (0xFF ∷ 0xFF ∷ [])
    ∷ write method5 1 []
    ∷ write method5 0 []
    -- 14 with w = 2 (document 02, card 2), and with w = 4, where it is as document 01 has it
    ∷ receive 3 2 2 (7 ∷ 3 ∷ [])
    ∷ receive 3 4 2 (7 ∷ 3 ∷ [])
    ∷ []

abbrev pub parts : Shape → EndSign → List ℕ → List ℕ → ℕ → ReadAnswer
parts s e head body n = taken (record { shape = s; end = e; header = head; text = body; counted = n })

abbrev pub results : List Result
results =
    -- 1 to 4
    block (parts shape.Text Etx [] (0x41 ∷ []) 2)
    ∷ block (parts shape.Text Etx [] (0x41 ∷ []) 2)
    ∷ block (parts shape.Text Etx [] (0x41 ∷ []) 2)
    ∷ block (parts shape.HeaderText Etb (0x48 ∷ []) (0x54 ∷ []) 4)
    -- 5: four bits from 1, and its framing; 6: two bits from 1, another framing
    ∷ compared (parts shape.Text Etx [] (0x42 ∷ []) 2) 4 true
    ∷ compared (parts shape.Header Etx (0x41 ∷ []) [] 2) 2 false
    -- 7 to 10
    ∷ block (parts shape.Text Etx [] [] 1)
    ∷ block (parts shape.Text Etx [] [] 1)
    ∷ block (refusal 18 0)
    ∷ block (refusal 52 3)
    -- 53 behind the end sign of method 1
    ∷ block (refusal 53 3)
    -- method 7
    ∷ block (parts shape.Text Etx [] (0x41 ∷ []) 2)
    ∷ block (refusal 54 0)
    ∷ block (refusal 18 0)
    -- DKOI
    ∷ block (parts shape.Header Etb (0x48 ∷ 0x49 ∷ []) [] 3)
    ∷ block (parts shape.Text Etx [] (0x16 ∷ 0x17 ∷ 0x41 ∷ []) 4)
    ∷ block (refusal 58 0)
    -- 11 and 12
    ∷ frame (0x00 ∷ 0xFF ∷ []) 42
    ∷ frame (0xFF ∷ 0xFF ∷ []) 54
    -- inside a byte
    ∷ frame (0x08 ∷ 0x04 ∷ []) 33
    ∷ frame (0x00 ∷ 0xFE ∷ []) 41
    ∷ frame (0x80 ∷ 0xFF ∷ []) 43
    ∷ frame (0x80 ∷ 0xFF ∷ []) 43
    ∷ refused 66 0
    ∷ refused 21 0
    -- 14 with w = 2, and with w = 4
    ∷ received (lost ∷ lost ∷ [])
    ∷ received (repeat ∷ lost ∷ [])
    ∷ []
