-- `Fixed8::check` meets its contract: the register is inverted. Assumes nothing.
use Prim.Native.Nat.{◌-◌, ◌^◌}
use Rattle.bits.proofs.Bytes.{low_bits-invert}
use Rattle.cyclic.proofs.Methods.{all_ones}
use Rattle.fixed_polynomials.specs.Polynomials.{degree8}
use Rattle.fixed_check.proofs.degree8.Fixed8Cyclic.check.Goals as goal

pub returns : goal.returns
unfolding degree8
returns c = low_bits-invert 8 c.args.self.register (2 ^ 8 - 1) (all_ones 8)
