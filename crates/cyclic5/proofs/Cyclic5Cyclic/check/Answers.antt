-- `Cyclic5::check` meets its contract: the register is inverted. Assumes nothing.
use Prim.Native.Nat.{◌-◌, ◌^◌}
use Rattle.bits.proofs.Bytes.{low_bits-invert}
use Rattle.cyclic.specs.Check.{method5}
use Rattle.cyclic.proofs.Methods.{all_ones}
use Rattle.cyclic5.proofs.Cyclic5Cyclic.check.Goals as goal

pub returns : goal.returns
unfolding method5
returns c = low_bits-invert 16 c.args.self.register (2 ^ 16 - 1) (all_ones 16)
