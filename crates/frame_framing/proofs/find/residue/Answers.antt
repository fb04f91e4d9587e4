-- `residue` meets its contract: the constants are what a receiver finds (003 appendices 1 and 2). Assumes nothing.
use mathlib.Core.Path.{refl}
use native.Mathlib.Omega.{arith}
use Rattle.bits.specs.Bytes.{low_bits}
use Rattle.cyclic.specs.Check.{method5, method6}
use Rattle.cyclic.proofs.Methods.{width_5, width_6, receivers, same_residue}
use Rattle.frame_framing.proofs.find.residue.Goals as goal

pub returns-in-Cyclic16 : goal.returns-in-Cyclic16
unfolding low_bits
returns-in-Cyclic16 c =
    rw c.in-Cyclic16.is
    (record { wide = 16; width_is = width_5.generator.width; receives = same_residue method5 16 refl receivers.method_5; small = omega arith })

pub returns-in-Cyclic32 : goal.returns-in-Cyclic32
unfolding low_bits
returns-in-Cyclic32 c =
    rw c.in-Cyclic32.is
    (record { wide = 32; width_is = width_6.generator.width; receives = same_residue method6 32 refl receivers.method_6; small = omega arith })
