-- Document 01's numbers and values for each case of the answers. Assumes nothing.
use Rattle.std.specs.Prelude.{ℕ, List, length, Result, Ok, Err}
use Rattle.bits.specs.Calls.{Call, called}
use Rattle.block.specs.declared.Method.{Method}
use Rattle.block.specs.declared.Parity.{Parity}
use Rattle.block.specs.declared.Shape.{Shape}
use Rattle.block.specs.declared.Shape.TheVariants as shape
use Rattle.block.specs.declared.EndSign.{EndSign}
use Rattle.block.specs.declared.ReadRefusal.{ReadRefusal}
use Rattle.block.specs.declared.ReadRefusal.TheVariants as reading
use Rattle.block.specs.declared.Block.{Block}
use Rattle.block.specs.declared.WriteRefusal.{WriteRefusal}
use Rattle.block.specs.declared.WriteRefusal.TheVariants as writing
use Rattle.block.specs.declared.Code.{Code}
use Rattle.block.specs.Signs.{koi7, table_of, end_byte}
use Rattle.block.specs.Read as reads
use Rattle.block.specs.Write as writes

abbrev pub shape_number : Shape → ℕ
shape_number shape.Header = 1
shape_number shape.Text = 2
shape_number shape.HeaderText = 3
shape_number shape.ClearText = 4
shape_number shape.HeaderClearText = 5

-- what an answer says in numbers: shape, end sign, lengths of header and text and the counted number; or number and value of a
-- refusal; or the length of a line
pub data Numbers : Type 0 where
  block : ℕ → ℕ → ℕ → ℕ → ℕ → Numbers
  line : ℕ → Numbers
  refused : ℕ → ℕ → Numbers

-- an end sign goes by its value in KOI-7, under either code
abbrev pub end_number : EndSign → ℕ
end_number e = end_byte koi7 e

abbrev pub read_number : ReadRefusal → ℕ
read_number reading.CodeNotCarried = 58
read_number reading.TooLong = 11
read_number (reading.WrongParity at) = 12
read_number reading.NoStart = 13
read_number (reading.OutOfPlace at) = 14
read_number reading.NoEnd = 15
read_number (reading.CheckShort at) = 52
read_number (reading.CheckLong at) = 53
read_number reading.TooManyCounted = 17
read_number reading.WrongCheck = 18
read_number reading.WrongDiagonal = 54
read_number (reading.OutputShort needed) = 19

abbrev pub read_value : ReadRefusal → ℕ
read_value reading.CodeNotCarried = 0
read_value reading.TooLong = 0
read_value (reading.WrongParity at) = at.0
read_value reading.NoStart = 0
read_value (reading.OutOfPlace at) = at.0
read_value reading.NoEnd = 0
read_value (reading.CheckShort at) = at.0
read_value (reading.CheckLong at) = at.0
read_value reading.TooManyCounted = 0
read_value reading.WrongCheck = 0
read_value reading.WrongDiagonal = 0
read_value (reading.OutputShort needed) = needed

abbrev pub of_read : Result Block ReadRefusal → Numbers
of_read (Ok b) = block (shape_number b.shape) (end_number b.end) b.header b.text b.counted
of_read (Err r) = refused (read_number r) (read_value r)

abbrev pub write_number : WriteRefusal → ℕ
write_number writing.CodeNotCarried = 58
write_number writing.NotCarried = 1
write_number (writing.HeaderByte at) = 2
write_number (writing.TextByte at) = 3
write_number writing.PartNotEmpty = 4
write_number writing.TooManyCounted = 5
write_number (writing.OutputShort needed) = 6

abbrev pub write_value : WriteRefusal → ℕ
write_value writing.CodeNotCarried = 0
write_value writing.NotCarried = 0
write_value (writing.HeaderByte at) = at.0
write_value (writing.TextByte at) = at.0
write_value writing.PartNotEmpty = 0
write_value writing.TooManyCounted = 0
write_value (writing.OutputShort needed) = needed

abbrev pub of_written : Result ℕ WriteRefusal → Numbers
of_written (Ok bytes) = line bytes
of_written (Err r) = refused (write_number r) (write_value r)

-- the rules' answers in the same numbers
abbrev pub of_read_answer : reads.ReadAnswer → Numbers
of_read_answer (reads.taken b) = block (shape_number b.shape) (end_number b.end) (length b.header) (length b.text) b.counted
of_read_answer (reads.refusal number value) = refused number value

abbrev pub of_write_answer : writes.WriteAnswer → Numbers
of_write_answer (writes.written bytes) = line (length bytes)
of_write_answer (writes.refusal number value) = refused number value

-- ---- the calls: the answer, and the lent output afterwards

abbrev pub after_reading : reads.ReadAnswer → List ℕ → Call Numbers
after_reading answer out = called (of_read_answer answer) (reads.read_output answer out)

abbrev pub read_call : Code → Method → Parity → List ℕ → List ℕ → Call Numbers
read_call c m p bytes out = after_reading (reads.read_block (table_of c) m p bytes (length out)) out

abbrev pub after_writing : writes.WriteAnswer → List ℕ → Call Numbers
after_writing answer out = called (of_write_answer answer) (writes.write_output answer out)

abbrev pub write_call : Code → Method → Parity → Shape → EndSign → List ℕ → List ℕ → List ℕ → Call Numbers
write_call c m p s e head body out = after_writing (writes.write_block (table_of c) m p s e head body (length out)) out
