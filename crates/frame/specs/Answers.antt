-- Document 01's numbers and values for each case of the answers. Assumes nothing.
use Rattle.std.specs.Prelude.{ℕ, List, length, Result, Ok, Err}
use Rattle.bits.specs.Calls.{Call, called}
use Rattle.frame.specs.declared.FrameMethod.{FrameMethod}
use Rattle.frame.specs.declared.WriteRefusal.{WriteRefusal}
use Rattle.frame.specs.declared.WriteRefusal.TheVariants as writing
use Rattle.frame.specs.declared.ReadRefusal.{ReadRefusal}
use Rattle.frame.specs.declared.ReadRefusal.TheVariants as reading
use Rattle.frame.specs.Frame.{parameters_of}
use Rattle.frame.specs.Write as writes
use Rattle.frame.specs.Read as reads

-- what an answer says in numbers: the bits of a written frame; the bits of a content that was read; or number and value of a
-- refusal
pub data Numbers : Type 0 where
  frame : ℕ → Numbers
  content : ℕ → Numbers
  refused : ℕ → ℕ → Numbers

abbrev pub write_number : WriteRefusal → ℕ
write_number writing.BitsNotLent = 66
write_number writing.NoContent = 21
write_number writing.TooLong = 22
write_number (writing.OutputShort needed) = 23

abbrev pub write_value : WriteRefusal → ℕ
write_value writing.BitsNotLent = 0
write_value writing.NoContent = 0
write_value writing.TooLong = 0
write_value (writing.OutputShort needed) = needed

-- of the bits written
abbrev pub of_written : Result ℕ WriteRefusal → Numbers
of_written (Ok bits) = frame bits
of_written (Err r) = refused (write_number r) (write_value r)

abbrev pub read_number : ReadRefusal → ℕ
read_number reading.BitsNotLent = 31
read_number reading.NoFlags = 32
read_number (reading.ZeroMissing at) = 33
read_number reading.NoContent = 35
read_number reading.TooLong = 36
read_number reading.WrongCheck = 37
read_number (reading.OutputShort needed) = 38

abbrev pub read_value : ReadRefusal → ℕ
read_value reading.BitsNotLent = 0
read_value reading.NoFlags = 0
read_value (reading.ZeroMissing at) = at.0
read_value reading.NoContent = 0
read_value reading.TooLong = 0
read_value reading.WrongCheck = 0
read_value (reading.OutputShort needed) = needed

-- of the bits read
abbrev pub of_read : Result ℕ ReadRefusal → Numbers
of_read (Ok bits) = content bits
of_read (Err r) = refused (read_number r) (read_value r)

-- the rules' answers in the same numbers
abbrev pub of_write_answer : writes.WriteAnswer → Numbers
of_write_answer (writes.written bits) = frame (length bits)
of_write_answer (writes.refusal number value) = refused number value

abbrev pub of_read_answer : reads.ReadAnswer → Numbers
of_read_answer (reads.taken bits) = content (length bits)
of_read_answer (reads.refusal number value) = refused number value

-- ---- the calls: the answer, and the lent output afterwards

abbrev pub after_writing : writes.WriteAnswer → List ℕ → Call Numbers
after_writing answer out = called (of_write_answer answer) (writes.write_output answer out)

-- of the claimed bits and the bytes lent
abbrev pub write_call : FrameMethod → ℕ → List ℕ → List ℕ → Call Numbers
write_call m claimed lent out = after_writing (writes.write_frame (parameters_of m) claimed lent (length out)) out

abbrev pub after_reading : reads.ReadAnswer → List ℕ → Call Numbers
after_reading answer out = called (of_read_answer answer) (reads.read_output answer out)

-- of the told bits and the bytes lent
abbrev pub read_call : FrameMethod → ℕ → List ℕ → List ℕ → Call Numbers
read_call m told lent out = after_reading (reads.read_frame (parameters_of m) told lent (length out)) out
