-- The line of a stored block (document 02, card 14). Assumes nothing.
use Rattle.std.specs.Prelude.{ℕ, ◌-◌, cond, nat_le, List, [], length}
use Rattle.bits.specs.Calls.{Call}
use Rattle.block.specs.declared.Parity.TheVariants.{Even}
use Rattle.block.specs.declared.Shape.TheVariants.{ClearText}
use Rattle.block.specs.declared.EndSign.TheVariants.{Etx}
use Rattle.block.specs.Signs.{koi7}
use Rattle.block.specs.Write.{WriteAnswer, refusal, write_block}
use Rattle.block.specs.Answers.{Numbers, after_writing}
use Rattle.orders.specs.declared.CyclicMethod.{CyclicMethod}
use Rattle.orders.specs.Methods.{as_method, method_of}
use Rattle.sender.specs.declared.Station.{Station}
use Rattle.sender.specs.Ring.{bytes_at, submitted_after}
use Rattle.sender.specs.Sender.{Verdict, clear, no, of_number}

-- of the stored block with d blocks submitted after it, the byte that keeps its method: the blocks from before the last order are the oldest
unfoldable pub method_at : Station → ℕ → ℕ
method_at s d = cond (nat_le (s.stored - s.older) d) s.former s.method

-- what a method writes of a block: shape 4 with ETX; 6 where the output, of `room` bytes, does not hold it
abbrev pub line_by : CyclicMethod → List ℕ → ℕ → WriteAnswer
line_by m bytes room = write_block koi7 (as_method m) Even ClearText Etx [] bytes room

abbrev pub written_by : Verdict → WriteAnswer → WriteAnswer
written_by clear line = line
written_by (no number value) line = refusal number value

-- the line of the named block, under the block's own method
unfoldable pub sending : ℕ → ℕ → Station → List ℕ → ℕ → ℕ → WriteAnswer
sending n w s store number room =
    written_by (of_number n w s (length store) number)
    (line_by (method_of (method_at s (submitted_after n s number))) (bytes_at w s store (submitted_after n s number)) room)

-- the answer, and the lent output afterwards
abbrev pub send_call : ℕ → ℕ → Station → List ℕ → ℕ → List ℕ → Call Numbers
send_call n w s store number out = after_writing (sending n w s store number (length out)) out
