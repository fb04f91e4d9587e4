-- `put_line` meets its contract: the parts of the line are stored one after the other. Assumes nothing.
use Rattle.std.proofs.Common.{◌∙◌}
use Rattle.block.specs.Signs.{table_of}
use Rattle.block_store.proofs.Stores.{length-stored}
use Rattle.block_line.proofs.Lines.{line_of_lem}
use Rattle.block_line.proofs.put_line.Goals as goal

-- where all parts are stored
stored : goal.returns
stored c =
    let l = c.args.link in
    let s = c.args.parts.now in
    line_of_lem (table_of l.code) l.method l.parity s.shape s.end s.header.now s.text.now c.is_seven-seven.ensures c.is_clear-clear.ensures
    (c.as_slice.ensures ∙ c.start_signs-start_signs.ensures l.code) (c.as_slice-2.ensures ∙ c.inner_signs-inner_signs.ensures l.code)
    (c.as_slice-3.ensures ∙ c.end_signs-end_signs.ensures) (c.as_slice-4.ensures ∙ c.written_check-check.ensures)
    c.store_each-start.ensures c.store_characters-head.ensures c.store_each-inner.ensures (c.put_text-body.ensures l.code)
    c.store_each-ending.ensures c.store_each.ensures

pub shape_of-out : goal.shape_of-out
shape_of-out c = length-stored (stored c)

pub returns : goal.returns
returns c = stored c
