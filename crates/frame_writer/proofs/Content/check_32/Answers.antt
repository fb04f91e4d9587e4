-- `check_32` meets its contract: the register after whole bytes and last bits holds the check. Assumes nothing.
use native.Mathlib.Omega.{arith}
use Rattle.bits.specs.Bytes.{low_bits}
use Rattle.cyclic.specs.Check.{method6}
use Rattle.cyclic.proofs.Methods.{width_6, began}
use Rattle.frame_writer.proofs.Written.{checks}
use Rattle.frame_writer.proofs.Content.check_32.Goals as goal

pub returns : goal.returns
unfolding method6
returns c =
    let a = c.args.self in
    checks 32 method6 width_6 a.bytes.now (low_bits a.bits a.last) _ _ _ _ (began c.new.ensures.constants) c.enter-whole.ensures (c.enter_bits.ensures (omega (arith, a.bits_few))) c.check.ensures
