-- `text_length` meets its contract: a byte more for each DLE of clear text. Assumes nothing.
use Rattle.std.proofs.Common.{rules, ◌≡◌, ap, ◌∙◌, ◌+◌, length, nat_eq, cond, arith, true, ◌^◌}
use Rattle.std.specs.List.{sum_by}
use Rattle.std.proofs.lemmas.Iterator.{YieldsList-from_slice}
use Rattle.std.proofs.lemmas.Iterator.Adapters.{fits_from_length, at_most_from_yields_List}
use Rattle.block.specs.Signs.{koi7, table_of}
use Rattle.block.specs.Write as rule
use Rattle.block.specs.Limits.{counted_limit}
use Rattle.block_line.specs.Line.{text_bytes}
use Rattle.block_writer.proofs.Lengths.{escaped_count, escaped_short}
use Rattle.block_writer.proofs.ShortParts.text_length.Goals as goal

pub sum-requires-clause-fits : goal.sum-requires-clause-fits
sum-requires-clause-fits c =
    fits_from_length _ _ counted_limit (2 ^ 64) (at_most_from_yields_List (YieldsList-from_slice c.args.self.parts.now.text.now cc) c.args.self.text_small) c.map.ensures.closure (omega arith) (λ x r q k. search rules)

pub overflow_add-result : goal.overflow_add-result
overflow_add-result c =
    let text = c.args.self.parts.now.text.now in
    let n : c.sum.result ≡ sum_by (λ b. cond (nat_eq b 16) 1 0) text = search rules in
    omega (arith, n, escaped_count koi7 text, escaped_short koi7 text, c.args.self.text_small)

pub returns : goal.returns
unfolding text_bytes
returns c code =
    let text = c.args.self.parts.now.text.now in
    let n : c.sum.result ≡ sum_by (λ b. cond (nat_eq b 16) 1 0) text = search rules in
    let clear : rule.is_clear c.args.self.parts.now.shape ≡ true = search rules in
    rw clear (ap (λ k. length text + k) n ∙ escaped_count (table_of code) text)
