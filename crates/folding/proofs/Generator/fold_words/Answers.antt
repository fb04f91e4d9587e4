-- `Generator::fold_words` meets its contract. The loop's invariant: the words so far are folded. Assumes nothing.
use native.Mathlib.Omega.{arith}
use Rattle.folding.proofs.Contents.{folded_next}
use Rattle.folding.proofs.Generator.fold_words.Goals as goal

pub loop-bytes-preserved : goal.loop-bytes-preserved
loop-bytes-preserved g c = (
  omega arith,
  folded_next c.args.words.now c.loop-bytes.bytes-index _ c.word.result c.loop-bytes.invariant.1 c.loop-bytes-test.true c.word.ensures c.fold_word-pending.ensures,
)
