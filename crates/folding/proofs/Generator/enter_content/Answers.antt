-- `Generator::enter_content` meets its contract: words are folded, then words entered, then bytes. Assumes nothing.
use mathlib.Core.Path.{◌∙◌}
use native.Mathlib.Omega.{arith}
use Rattle.words.proofs.Within.{words_within}
use Rattle.folding.proofs.Contents.{whole}
use Rattle.folding.proofs.Generator.enter_content.Goals as goal

pub returns : goal.returns
returns g c =
    let m = g.Self.Generator in
    let cut = c.as_chunks in
    let parts = c.split_at in
    let folded = c.words_before-folded in
    c.enter_bytes-2.ensures
    ∙ whole m.generator (m.register_bits c.args.start) (m.register_bits c.enter_words-register.result) m.PENDING folded.result c.args.content.now cut.result.0.now parts.result.0.now parts.result.1.now cut.result.1.now
    cut.ensures.front cut.ensures.back parts.ensures.front parts.ensures.back parts.ensures.front_len (omega arith) (omega arith)
    (λ some. omega (arith, (words_within _ c.FOLDED_FROM.result c.PENDING.result folded.result folded.ensures).1 some))
    c.fold_words-pending.ensures c.enter_words-register.ensures
