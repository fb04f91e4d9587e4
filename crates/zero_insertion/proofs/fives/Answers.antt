-- `fives` meets its contract. Assumes nothing.
use mathlib.Core.Path.{ap, ◌∙◌}
use Prim.Native.Nat.{◌/◌}
use lib.Bits.{bit_and, and_shr}
use lib.Pow.{shr-shr}
use Rattle.zero_insertion.specs.Insertion.{fives_in}
use Rattle.zero_insertion.proofs.fives.Goals as goal

pub returns : goal.returns
unfolding fives_in
returns c =
    let x = c.args.x in
    ap (λ z. bit_and (bit_and (bit_and x (x / 2)) z) (x / 16)) (and_shr x (x / 2) 2 ∙ ap (bit_and (x / 4)) (shr-shr x 1 2))
