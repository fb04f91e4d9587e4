-- What writing a block, reading it back and comparing answer, by the rules of writing and reading. Assumes nothing.
use Rattle.std.specs.Prelude.{◌≡◌, ℕ, ◌+◌, cond, Bool, true, false, List, ◌++◌, leb, length, take, Result, Ok, Err}
use Rattle.block.specs.declared.Method.{Method}
use Rattle.block.specs.declared.Parity.{Parity}
use Rattle.block.specs.declared.Shape.{Shape}
use Rattle.block.specs.declared.EndSign.{EndSign}
use Rattle.block.specs.declared.Block.{Block}
use Rattle.block.specs.declared.Link.{Link}
use Rattle.block.specs.declared.Parts.{Parts}
use Rattle.block.specs.Signs.{CodeTable, table_of}
use Rattle.block.specs.Answers as answers
use Rattle.block.specs.Read as reading
use Rattle.block.specs.Write as writing
use Rattle.guarantees.specs.Second.{parts_written}
use Rattle.roundtrip.specs.Returns.{Returned, equal, different, refused, RoundTrip, returned}
use Rattle.block.specs.declared.ReadRefusal.{ReadRefusal}
use Rattle.block.specs.declared.WriteRefusal.{WriteRefusal}
use Rattle.roundtrip.specs.declared.RoundTripError.{RoundTripError}
use Rattle.roundtrip.specs.declared.RoundTripError.TheVariants.{NotWritten, NotRead}

-- what reading a written block answers, of an output of `space` bytes
abbrev pub block_back : CodeTable → Shape → EndSign → List ℕ → List ℕ → ℕ → reading.ReadAnswer
block_back t s e head body space =
    cond (leb (length head + length body) space) (reading.taken (parts_written t s e head body)) (reading.refusal 19 (length head + length body))

-- of whether the parts came back
abbrev pub of_block_return : Result Bool (RoundTripError WriteRefusal ReadRefusal) → Returned
of_block_return (Ok true) = equal
of_block_return (Ok false) = different
of_block_return (Err (NotWritten r)) = refused (answers.write_number r) (answers.write_value r)
of_block_return (Err (NotRead r)) = refused (answers.read_number r) (answers.read_value r)

-- of what writing answers and of what reading that would: `different` is no answer
abbrev pub block_answer : writing.WriteAnswer → reading.ReadAnswer → Returned
block_answer (writing.refusal number value) read = refused number value
block_answer (writing.written line) (reading.refusal number value) = refused number value
block_answer (writing.written line) (reading.taken b) = equal

abbrev pub block_output : writing.WriteAnswer → reading.ReadAnswer → List ℕ → List ℕ
block_output (writing.refusal number value) read out = out
block_output (writing.written line) read out = reading.read_output read out

abbrev pub block_trip : writing.WriteAnswer → reading.ReadAnswer → List ℕ → List ℕ → RoundTrip
block_trip wrote read line out = returned (block_answer wrote read) (writing.write_output wrote line) (block_output wrote read out)

-- of the parts, the lent line and the lent output
abbrev pub block_returns : CodeTable → Method → Parity → Shape → EndSign → List ℕ → List ℕ → List ℕ → List ℕ → RoundTrip
block_returns t m p s e head body line out =
    block_trip (writing.write_block t m p s e head body (length line)) (block_back t s e head body (length out)) line out

-- and of a link and the parts lent
abbrev pub returns_of_parts : Link → Parts → List ℕ → List ℕ → RoundTrip
returns_of_parts l s line out = block_returns (table_of l.code) l.method l.parity s.shape s.end s.header.now s.text.now line out

-- the block read has the parts given, and the output starts with them
pub record BlockOf (s : Shape) (e : EndSign) (head body : List ℕ) (b : Block) (out : List ℕ) : Type 0 where
  pub same_shape : answers.shape_number b.shape ≡ answers.shape_number s
  pub same_end : answers.end_number b.end ≡ answers.end_number e
  pub header-length : b.header ≡ length head
  pub text-length : b.text ≡ length body
  pub parts : take (length head + length body) out ≡ head ++ body
