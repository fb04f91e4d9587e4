-- `write_block` meets its contract: what was asked of the parts is what the rule asks first. Assumes nothing.
use Rattle.std.proofs.lemmas.Result.{err_from_is_err_and}
use Rattle.block.specs.Signs.{table_of}
use Rattle.block_writer.proofs.Writing.{code_refused, parts_refused, parts_allowed, parts_written_lem}
use Rattle.block_writer.proofs.write.write_block.Goals as goal

pub invariant_of-short : goal.invariant_of-short
invariant_of-short c =
    let l = c.args.link in
    let s = c.args.parts.now in
    let short =
    parts_allowed (table_of l.code) l.method l.parity s.shape s.end s.header.now s.text.now c.args.out.now c.carries.ensures c.if-not-carries.false c.ask_parts.result c.is_seven.ensures c.ask_parts.ensures c.in_ok-ask_parts.was in
    record {
      header_small = short.0;
      text_small = short.1;
    }

pub returns-then-not-carries : goal.returns-then-not-carries
returns-then-not-carries c =
    let l = c.args.link in
    let s = c.args.parts.now in
    code_refused (table_of l.code) l.method l.parity s.shape s.end s.header.now s.text.now c.args.out.now c.carries.ensures c.if-not-carries.true

pub returns : goal.returns
returns c =
    let l = c.args.link in
    let s = c.args.parts.now in
    parts_written_lem (table_of l.code) l.method l.parity s.shape s.end s.header.now s.text.now c.args.out.now c.carries.ensures c.if-not-carries.false c.ask_parts.result c.is_seven.ensures c.ask_parts.ensures c.in_ok-ask_parts.was c.write_line.ensures

pub returns-in_err-ask_parts : goal.returns-in_err-ask_parts
returns-in_err-ask_parts c =
    let l = c.args.link in
    let s = c.args.parts.now in
    let p = err_from_is_err_and c.from_residual.result c.from_residual.ensures.1 in
    rw (p.1, p.2)
    (parts_refused (table_of l.code) l.method l.parity s.shape s.end s.header.now s.text.now c.args.out.now c.carries.ensures c.if-not-carries.false c.ask_parts.result c.is_seven.ensures c.ask_parts.ensures c.in_err-ask_parts.was)
