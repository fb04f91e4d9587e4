-- `character` meets its contract. Assumes nothing.
use Rattle.block.specs.Characters.{character}
use Rattle.block.proofs.signs.character.Goals as goal

pub returns-then-seven : goal.returns-then-seven
unfolding character
returns-then-seven c = rw c.if-seven.true

pub returns-else-seven : goal.returns-else-seven
unfolding character
returns-else-seven c = rw c.if-seven.false
