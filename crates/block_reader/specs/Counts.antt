-- The counts of a line's segments: those of the bytes that they keep, and the numbers of the answer. Assumes nothing.
use Rattle.std.specs.Prelude.{◌≡◌, ℕ, Bool, List, length}
use Rattle.block.specs.Signs.{CodeTable}
use Rattle.block.specs.Answers.{Numbers, block, shape_number, end_number}
use Rattle.block_framing.specs.declared.Segments.{Segments}
use Rattle.block_framing.specs.Framings.{header_in, text_in}

pub record CountsKept (t : CodeTable) (seven : Bool) (f : Segments) (line : List ℕ) : Type 0 where
  pub header : f.header ≡ length (header_in t seven f line)
  pub text : f.text ≡ length (text_in t seven f line)

-- an accepted block in numbers
abbrev pub held_by : Segments → Numbers
held_by f = block (shape_number f.shape) (end_number f.end) f.header f.text f.counted
