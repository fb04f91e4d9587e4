-- `Fixed24::check` meets its contract: the register is inverted. Assumes nothing.
use Prim.Native.Nat.{◌-◌, ◌^◌}
use Rattle.bits.proofs.Bytes.{low_bits-invert}
use Rattle.cyclic.proofs.Methods.{all_ones}
use Rattle.fixed_polynomials.specs.Polynomials.{degree24}
use Rattle.fixed_check.proofs.degree24.Fixed24Cyclic.check.Goals as goal

pub returns : goal.returns
unfolding degree24
returns c = low_bits-invert 24 c.args.self.register (2 ^ 24 - 1) (all_ones 24)
