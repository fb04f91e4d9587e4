-- `add_both` meets its contract. Assumes nothing.
use Rattle.std.proofs.Common.{◌+◌, ◌*◌, ap₂}
use Rattle.block_diagonals.specs.Sums.{sums_after}
use Rattle.block_diagonals.proofs.add_both.Goals as goal

pub returns : goal.returns
unfolding sums_after
returns c = ap₂ (λ s r. s * 256 + r) c.sum_slice-sums.ensures c.turn_slice-register.ensures
