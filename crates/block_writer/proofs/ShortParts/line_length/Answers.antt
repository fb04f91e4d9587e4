-- `line_length` meets its contract: each of the lengths is small. Assumes nothing.
use Rattle.std.proofs.Common.{length, ap, ◌∙◌, arith}
use Rattle.block.specs.Signs.{table_of}
use Rattle.block.specs.Write.{is_clear}
use Rattle.block.proofs.CheckLaws.{check_short}
use Rattle.block_signs.specs.Signs.{end_signs}
use Rattle.block_writer.proofs.Lengths.{text_short, length-line}
use Rattle.block_writer.proofs.ShortParts.line_length.Goals as goal

pub overflow_add-result-2 : goal.overflow_add-result-2
overflow_add-result-2 c =
    let s = c.args.self.parts.now in
    omega (arith, c.args.self.header_small, c.args.self.text_small, c.text_length.ensures c.args.link.code, text_short (table_of c.args.link.code) (is_clear s.shape) s.text.now)

pub overflow_add-result-3 : goal.overflow_add-result-3
overflow_add-result-3 c =
    let s = c.args.self.parts.now in
    omega (arith, c.args.self.header_small, c.args.self.text_small, c.text_length.ensures c.args.link.code, text_short (table_of c.args.link.code) (is_clear s.shape) s.text.now, c.check_length.ensures, check_short c.args.link.method)

pub returns : goal.returns
returns c =
    let s = c.args.self.parts.now in
    omega (
      arith,
      length-line (table_of c.args.link.code) c.args.link.method c.args.link.parity s.shape s.end s.header.now s.text.now,
      c.len.ensures.length ∙ ap length (c.start_signs.ensures c.args.link.code),
      c.len-2.ensures.length ∙ ap length (c.inner_signs.ensures c.args.link.code),
      c.len-3.ensures.length ∙ ap length c.end_signs.ensures ∙ ap (λ t. length (end_signs (table_of c.args.link.code) t s.end)) c.is_clear.ensures,
      c.text_length.ensures c.args.link.code,
      c.check_length.ensures,
    )
