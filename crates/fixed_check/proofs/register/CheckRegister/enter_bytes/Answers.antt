-- `CheckRegister::enter_bytes` meets its contract. The loop's invariant: the bytes so far are entered. Assumes nothing.
use mathlib.Core.Path.{refl, ◌∙◌}
use native.Mathlib.Omega.{arith}
use Rattle.bits.specs.Bytes.{bits_of}
use Rattle.registers.specs.Register.{enter}
use Rattle.folding.proofs.Contents.{next_byte}
use Rattle.fixed_check.proofs.register.CheckRegister.enter_bytes.Goals as goal

pub loop-byte-init : goal.loop-byte-init
unfolding bits_of enter
loop-byte-init g c = (omega arith, refl)

pub loop-byte-preserved : goal.loop-byte-preserved
loop-byte-preserved g c =
    let m = g.Self.CheckRegister in
    let joined = rw c.loop-byte.invariant.1 at c.enter_byte-register.ensures in
    (omega arith, joined ∙ next_byte m.generator (m.bits c.args.self) c.args.bytes.now c.loop-byte.byte-index c.loop-byte-test.true)
