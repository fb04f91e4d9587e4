-- `written_number` meets its contract: the parts are added one after the other. Assumes nothing.
use Rattle.std.proofs.Common.{[], ◌∷◌, ap, ◌∙◌}
use Rattle.block.specs.Signs.{table_of}
use Rattle.block_check.specs.Numbers.{start_of, number_after}
use Rattle.block_check.proofs.NumberLaws.{number_append}
use Rattle.block_checks.proofs.Checks.{parts_of_lem}
use Rattle.block_checks.proofs.written_number.Goals as goal

pub returns : goal.returns
returns c =
    let m = c.args.link.method in
    let t = table_of c.args.link.code in
    let p = c.args.parts.now in
    parts_of_lem (number_after m) (number_append m) t p.shape p.end p.header.now p.text.now (start_of m)
    (c.add_run-after_header.ensures ∙ ap (λ n. number_after m n p.header.now) c.start_of.ensures)
    (c.add_run-after_inner.ensures ∙ ap (number_after m c.add_run-after_header.result) (c.as_slice.ensures ∙ c.inner_signs-inner.ensures c.args.link.code))
    c.add_run-after_text.ensures
    (c.add_one.ensures ∙ ap (λ x. number_after m c.add_run-after_text.result (x ∷ [])) c.end_byte.ensures)
