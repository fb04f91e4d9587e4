-- `Ieee32::begin` meets its contract: the register stands in the first word. Assumes nothing.
use mathlib.Core.Path.{refl}
use borrow.Author.Rules.{rules}
use Rattle.folding.proofs.Multiples.{ieee_multiple}
use Rattle.folding.proofs.Steps.{begun}
use Rattle.ieee32.proofs.Ieee32Generator.begin.Goals as goal

pub returns : goal.returns
returns c = begun ieee_multiple 32 4 40 c.args.register refl (search rules)
