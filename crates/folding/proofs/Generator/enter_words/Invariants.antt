-- `Generator::enter_words` meets its contract. The loop's invariant: what is left, with what is yet to be added to it, gives the
-- whole. Assumes nothing.
use Rattle.folding.proofs.Contents.{Entering}
use Rattle.folding.proofs.Generator.enter_words.Given as goal

abbrev pub invariant-loop-bytes : goal.invariant-loop-bytes
invariant-loop-bytes g l =
    let m = g.Self.Generator in
    Entering m.generator (m.pending_words l.fn.first) l.words (m.register_bits l.register) (m.pending_words l.pending) l.bytes-index
