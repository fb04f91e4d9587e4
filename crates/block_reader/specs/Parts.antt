-- The parts of a framed line, and the questions of its check. Assumes nothing.
use Rattle.std.specs.Prelude.{ℕ, Bool, List, drop}
use Rattle.bits.specs.Bytes.{bits_of}
use Rattle.block.specs.Signs.{table_of}
use Rattle.block.specs.Characters.{is_seven}
use Rattle.block.specs.Check.{check_of}
use Rattle.block.specs.Read.{ReadAnswer, ask_same}
use Rattle.block_framing.specs.Framings.{header_in, text_in, counted_in}
use Rattle.block_reader.specs.declared.FramedLine.{FramedLine}

abbrev pub header_of : FramedLine → List ℕ
header_of x = header_in (table_of x.link.code) (is_seven x.link.method) x.segments x.line.now

abbrev pub text_of : FramedLine → List ℕ
text_of x = text_in (table_of x.link.code) (is_seven x.link.method) x.segments x.line.now

abbrev pub counted_of : FramedLine → List ℕ
counted_of x = counted_in (table_of x.link.code) (is_seven x.link.method) x.segments x.line.now

-- what follows the end sign
abbrev pub bits_behind : FramedLine → List Bool
bits_behind x = bits_of (drop x.segments.after x.line.now)

-- 18 and 54: is it the check of the counted bytes?
abbrev pub ask_behind : FramedLine → ReadAnswer → ReadAnswer
ask_behind x next = ask_same x.link.method (bits_behind x) (check_of x.link.method x.link.parity (counted_of x)) next
