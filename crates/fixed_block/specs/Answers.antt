-- Document 02's number and value for each case of the answers. Assumes nothing.
use Rattle.std.specs.Prelude.{ℕ, Result, Ok, Err}
use Rattle.fixed_block.specs.declared.FixedWriteRefusal.{FixedWriteRefusal}
use Rattle.fixed_block.specs.declared.FixedWriteRefusal.TheVariants as writing
use Rattle.fixed_block.specs.declared.FixedReadRefusal.{FixedReadRefusal}
use Rattle.fixed_block.specs.declared.FixedReadRefusal.TheVariants as reading
use Rattle.fixed_block.specs.Block.{Answer, done, refused}

abbrev pub refused_writing : FixedWriteRefusal → Answer
refused_writing writing.NoContent = refused 64 0
refused_writing writing.TooLong = refused 65 0
refused_writing (writing.OutputShort needed) = refused 6 needed

abbrev pub written : Result ℕ FixedWriteRefusal → Answer
written (Ok n) = done n
written (Err r) = refused_writing r

abbrev pub refused_reading : FixedReadRefusal → Answer
refused_reading reading.NoContent = refused 64 0
refused_reading reading.TooLong = refused 65 0
refused_reading reading.WrongCheck = refused 18 0
refused_reading (reading.OutputShort needed) = refused 19 needed

abbrev pub read : Result ℕ FixedReadRefusal → Answer
read (Ok n) = done n
read (Err r) = refused_reading r
