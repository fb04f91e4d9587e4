-- `CheckRegister::enter_words` meets its contract. The loop's invariant: the words so far are entered. Assumes nothing.
use mathlib.Core.Path.{refl, ◌∙◌}
use native.Mathlib.Omega.{arith}
use Rattle.bits.specs.Bytes.{bits_of}
use Rattle.registers.specs.Register.{enter}
use Rattle.fixed_check.proofs.Contents.{next_word}
use Rattle.fixed_check.proofs.register.CheckRegister.enter_words.Goals as goal

pub loop-bytes-init : goal.loop-bytes-init
unfolding bits_of enter
loop-bytes-init g c = (omega arith, refl)

pub loop-bytes-preserved : goal.loop-bytes-preserved
loop-bytes-preserved g c =
    let m = g.Self.CheckRegister in
    let joined = rw c.loop-bytes.invariant.1 at c.enter_word-register.ensures in
    (omega arith, joined ∙ next_word m.generator (m.bits c.args.self) c.args.words.now c.loop-bytes.bytes-index _ _ c.loop-bytes-test.true c.word.ensures)
