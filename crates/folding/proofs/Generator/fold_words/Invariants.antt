-- `Generator::fold_words` meets its contract. The loop's invariant: the words so far are folded. Assumes nothing.
use Rattle.std.proofs.Common.{◌≤◌, length, take}
use Rattle.folding.specs.Content.{FoldedAll}
use Rattle.folding.proofs.Generator.fold_words.Given as goal

abbrev pub invariant-loop-bytes : goal.invariant-loop-bytes
invariant-loop-bytes g l =
    let m = g.Self.Generator in
    (l.bytes-index ≤ length l.words) × FoldedAll m.generator m.PENDING (m.register_bits l.fn.start) (take l.bytes-index l.words) (m.pending_words l.pending)
