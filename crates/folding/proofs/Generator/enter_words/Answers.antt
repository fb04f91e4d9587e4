-- `Generator::enter_words` meets its contract. The loop's invariant: what is left, with what is yet to be added to it, gives the
-- whole. Assumes nothing.
use Rattle.folding.proofs.Contents.{entering_first, entering_next, entering_all}
use Rattle.folding.proofs.Generator.enter_words.Goals as goal

pub loop-bytes-init : goal.loop-bytes-init
loop-bytes-init g c =
    let m = g.Self.Generator in
    entering_first m.generator (m.pending_words c.args.first) c.args.words.now (m.register_bits c.empty-register.result) c.empty-register.ensures

pub loop-bytes-preserved : goal.loop-bytes-preserved
loop-bytes-preserved g c =
    let m = g.Self.Generator in
    let taken = c.next-added in
    entering_next _ taken.result.0 c.word.result (m.pending_words taken.result.1) (m.register_bits c.enter_word-register.result) c.loop-bytes.invariant c.loop-bytes-test.true
    taken.ensures c.word.ensures c.enter_word-register.ensures

pub returns : goal.returns
returns g c = entering_all c.loop-bytes.invariant c.loop-bytes-test.false
