-- `ask_check` meets its contract: the segments are added one after the other, and their number stands for the check. Assumes nothing.
use mathlib.Core.Path.{ap, ap₂, ◌∙◌}
use Prim.Native.Nat.{◌-◌}
use native.Mathlib.Omega.{arith}
use lib.ListN.{length, length-drop, drop}
use lib.Seq.{take_all}
use Rattle.bits.specs.Bytes.{bits_of}
use Rattle.block.specs.Signs.{table_of}
use Rattle.block.specs.Characters.{is_seven}
use Rattle.block.specs.Read.{ask_same}
use Rattle.block_check.specs.Numbers.{start_of, number_after, check_from}
use Rattle.block_check.proofs.NumberLaws.{number_append, check-after}
use Rattle.block_reader.specs.Parts.{counted_of}
use Rattle.block_reader.proofs.PartLaws.{folded}
use Rattle.block_reader.proofs.FramedLine.ask_check.Goals as goal

pub returns : goal.returns
returns c next =
    let x = c.args.self.now in
    let m = x.link.method in
    let f = x.segments in
    let line = x.line.now in
    let number =
    folded (table_of x.link.code) (is_seven m) f line x.ordered (number_after m) (number_append m) (start_of m) c.start_of.ensures c.header.ensures c.add_segment-header.ensures
    c.add_run-signs.ensures c.text.ensures c.add_segment-text.ensures c.add_one-counted.ensures in
    c.ask_check.ensures next
    ∙ ap₂ (λ l n. ask_same m (bits_of l) (check_from m x.link.parity n) next) (take_all (length line - f.after) (drop f.after line) (omega (arith, length-drop f.after line))) number
    ∙ ap (λ z. ask_same m (bits_of (drop f.after line)) z next) (check-after m x.link.parity (counted_of x))
