-- `word` meets its contract: eight bytes are those of the number that they make. Assumes nothing.
use mathlib.Core.Path.{sym, ap, ◌∙◌}
use borrow.Author.Rules.{rules}
use Rattle.std.proofs.lemmas.Nat.{le_bytes_8}
use Rattle.bits.specs.Bytes.{bits_of}
use Rattle.bits.proofs.Packing.{le_bytes, bits_of-little_endian}
use Rattle.words.proofs.word.Goals as goal

pub returns : goal.returns
returns c =
    let x = c.from_le_bytes.result in
    sym (bits_of-little_endian 8 x) ∙ ap bits_of (sym (le_bytes 8 x) ∙ le_bytes_8 c.args.bytes.now x (search rules) (search rules) c.from_le_bytes.ensures)
