-- `Ibm16::begin` meets its contract: the register stands in the first word. Assumes nothing.
use mathlib.Core.Path.{refl}
use borrow.Author.Rules.{rules}
use Rattle.folding.proofs.Multiples.{ibm_multiple}
use Rattle.folding.proofs.Steps.{begun}
use Rattle.ibm16.proofs.Ibm16Generator.begin.Goals as goal

pub returns : goal.returns
returns c = begun ibm_multiple 48 2 24 c.args.register refl (search rules)
