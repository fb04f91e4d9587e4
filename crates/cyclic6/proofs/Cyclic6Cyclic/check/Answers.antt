-- `Cyclic6::check` meets its contract: the register is inverted. Assumes nothing.
use Prim.Native.Nat.{◌-◌, ◌^◌}
use Rattle.bits.proofs.Bytes.{low_bits-invert}
use Rattle.cyclic.specs.Check.{method6}
use Rattle.cyclic.proofs.Methods.{all_ones}
use Rattle.cyclic6.proofs.Cyclic6Cyclic.check.Goals as goal

pub returns : goal.returns
unfolding method6
returns c = low_bits-invert 32 c.args.self.register (2 ^ 32 - 1) (all_ones 32)
