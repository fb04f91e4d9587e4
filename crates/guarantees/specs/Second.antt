-- The owner's second property: reading gives back what was written, and writing what was read gives the line without its fill
-- signs, or the very bits of the frame. Assumes nothing.
use Rattle.std.specs.Prelude.{◌≡◌, ℕ, ◌+◌, ◌≤◌, Bool, List, ◌++◌, length, take}
use Rattle.bits.specs.Bytes.{bits_of, Bytes, bytes_for, pack}
use Rattle.cyclic.specs.Check.{Parameters, method5, method6}
use Rattle.block.specs.declared.Method.{Method}
use Rattle.block.specs.declared.Parity.{Parity}
use Rattle.block.specs.declared.Shape.{Shape}
use Rattle.block.specs.declared.EndSign.{EndSign}
use Rattle.block.specs.Signs.{CodeTable}
use Rattle.block.specs.Read.{Parts, taken, read_block, output_length}
use Rattle.block.specs.Write.{written, write_block, counted_length}
use Rattle.frame.specs.Read as frame-reading
use Rattle.frame.specs.Write as frame-writing
use Rattle.guarantees.specs.Blocks as block-lines
use Rattle.guarantees.specs.Frames as frame-lines
use Rattle.guarantees.specs.Fill.{without_fill}

-- the parts that a block is written of, as reading names them
abbrev pub parts_written : CodeTable → Shape → EndSign → List ℕ → List ℕ → Parts
parts_written t s e head body = record { shape = s; end = e; header = head; text = body; counted = counted_length t s head body }

-- "reading a written line gives back its parts"
abbrev pub WrittenReadsBack : Type 0
WrittenReadsBack =
    (t : CodeTable) (m : Method) (p : Parity) (s : Shape) (e : EndSign) (head body line : List ℕ) (room space : ℕ)
    → write_block t m p s e head body room ≡ written line → length head + length body ≤ space
    → read_block t m p line space ≡ taken (parts_written t s e head body)

-- "and writing those gives the line without fill signs"
abbrev pub ReadWritesBack : Type 0
ReadWritesBack =
    (t : CodeTable) (m : Method) (p : Parity) (line : List ℕ) (b : Parts) (room space : ℕ) → Bytes line → read_block t m p line room ≡ taken b
    → length (without_fill t m line) ≤ space → write_block t m p b.shape b.end b.header b.text space ≡ written (without_fill t m line)

-- an accepted line is taken wherever the output is long enough for its parts
abbrev pub AcceptedIsTaken : Type 0
AcceptedIsTaken =
    (t : CodeTable) (m : Method) (p : Parity) (line : List ℕ) → block-lines.Accepted t m p line
    → (b : Parts) × ((room : ℕ) → output_length b ≤ room → read_block t m p line room ≡ taken b)

-- a frame is taken by its told bits, and from all bytes lent that begin with them
abbrev pub FrameTaken : Parameters → List Bool → List Bool → ℕ → Type 0
FrameTaken m frame content room =
    (frame-reading.read_bits m frame room ≡ frame-reading.taken content)
    × ((lent : List ℕ) → take (length frame) (bits_of lent) ≡ frame
    → frame-reading.read_frame m (length frame) lent room ≡ frame-reading.taken content)

-- an accepted frame is taken wherever the output is long enough for its content
abbrev pub AcceptedFrameIsTaken : Parameters → Type 0
AcceptedFrameIsTaken m =
    (frame : List Bool) → frame-lines.Accepted m frame
    → (content : List Bool) × ((room : ℕ) → bytes_for (length content) ≤ room → FrameTaken m frame content room)

-- a written frame is read from the bytes that hold it, whatever stands behind them: its content is the claimed number of bits of the
-- bytes lent to writing (document 02, card 13: any number of bits)
abbrev pub FrameReadsBack : Parameters → Type 0
FrameReadsBack m =
    (claimed : ℕ) (lent : List ℕ) (frame : List Bool) (room space : ℕ) (behind : List ℕ)
    → frame-writing.write_frame m claimed lent room ≡ frame-writing.written frame → bytes_for claimed ≤ space
    → frame-reading.read_frame m (length frame) (pack frame ++ behind) space ≡ frame-reading.taken (take claimed (bits_of lent))

-- and writing the content's bits, out of the bytes that hold them, gives the told bits back
abbrev pub FrameWritesBack : Parameters → Type 0
FrameWritesBack m =
    (frame content : List Bool) (room space : ℕ) → frame-reading.read_bits m frame room ≡ frame-reading.taken content → length (pack frame) ≤ space
    → frame-writing.write_frame m (length content) (pack content) space ≡ frame-writing.written frame

pub record SecondProperty : Type 0 where
  pub written_reads_back : WrittenReadsBack
  pub read_writes_back : ReadWritesBack
  pub accepted_is_taken : AcceptedIsTaken
  pub accepted_is_taken_5 : AcceptedFrameIsTaken method5
  pub accepted_is_taken_6 : AcceptedFrameIsTaken method6
  pub frame_reads_back_5 : FrameReadsBack method5
  pub frame_reads_back_6 : FrameReadsBack method6
  pub frame_writes_back_5 : FrameWritesBack method5
  pub frame_writes_back_6 : FrameWritesBack method6
