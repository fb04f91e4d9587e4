-- The rules of writing, of a link and the parts lent. Assumes nothing.
use Rattle.std.specs.Prelude.{ℕ, Bool, List}
use Rattle.bits.specs.Calls.{Call}
use Rattle.block.specs.declared.Link.{Link}
use Rattle.block.specs.declared.Parts.{Parts}
use Rattle.block.specs.Signs.{table_of}
use Rattle.block.specs.Check.{check_of}
use Rattle.block.specs.Write.{counted_bytes, line_of}
use Rattle.block.specs.Answers.{Numbers, write_call}

abbrev pub check_of_parts : Link → Parts → List Bool
check_of_parts l s = check_of l.method l.parity (counted_bytes (table_of l.code) l.method l.parity s.shape s.end s.header.now s.text.now)

abbrev pub line_of_parts : Link → Parts → List ℕ
line_of_parts l s = line_of (table_of l.code) l.method l.parity s.shape s.end s.header.now s.text.now

abbrev pub write_parts : Link → Parts → List ℕ → Call Numbers
write_parts l s out = write_call l.code l.method l.parity s.shape s.end s.header.now s.text.now out
