-- `Ccitt16::begin` meets its contract: the register stands in the first word. Assumes nothing.
use mathlib.Core.Path.{refl}
use borrow.Author.Rules.{rules}
use Rattle.folding.proofs.Multiples.{ccitt_multiple}
use Rattle.folding.proofs.Steps.{begun}
use Rattle.ccitt16.proofs.Ccitt16Generator.begin.Goals as goal

pub returns : goal.returns
returns c = begun ccitt_multiple 48 3 32 c.args.register refl (search rules)
