-- `Fixed16::check` meets its contract: the register is inverted. Assumes nothing.
use Prim.Native.Nat.{◌-◌, ◌^◌}
use Rattle.bits.proofs.Bytes.{low_bits-invert}
use Rattle.cyclic.proofs.Methods.{all_ones}
use Rattle.fixed_polynomials.specs.Polynomials.{degree16}
use Rattle.fixed_check.proofs.degree16.Fixed16Cyclic.check.Goals as goal

pub returns : goal.returns
unfolding degree16
returns c = low_bits-invert 16 c.args.self.register (2 ^ 16 - 1) (all_ones 16)
