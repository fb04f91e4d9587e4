-- `sum_slice` meets its contract: the library's fold. Assumes nothing.
use Rattle.std.proofs.Common.{rules, ◌≡◌, ◌∙◌, bit_xor}
use Rattle.std.specs.List.{fold}
use Rattle.block.proofs.Sums.{xor_all_fold}
use Rattle.block.proofs.check.sum_slice.Goals as goal

pub returns : goal.returns
returns c =
    let e : c.fold.result ≡ fold bit_xor c.args.start c.args.part.now = search rules in
    e ∙ xor_all_fold c.args.start c.args.part.now
