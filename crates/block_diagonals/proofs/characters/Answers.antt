-- `characters` meets its contract: the sums, and the register that they entered. Assumes nothing.
use Rattle.std.proofs.Common.{[], ◌∷◌, ap, ap₂, ◌∙◌}
use Rattle.block.specs.Characters.{with_parity}
use Rattle.block_diagonals.proofs.characters.Goals as goal

pub returns : goal.returns
returns c = ap₂ (λ x y. x ∷ y ∷ []) c.with_parity.ensures (c.with_parity-2.ensures ∙ ap (with_parity c.args.p) c.turn_in-register.ensures)
