-- `passes` meets its contract: what is SYN is fill. Assumes nothing.
use mathlib.Core.Path.{ap₂, ◌∙◌}
use lib.Dec.{eqb}
use Rattle.block.specs.Signs.{table_of}
use Rattle.block.proofs.SignTests.{syn_test}
use Rattle.block_end.specs.Ends.{is_fill}
use Rattle.block_end.proofs.FillByteTest.passes.Goals as goal

pub returns : goal.returns
unfolding is_fill
returns c = let t = table_of c.args.self.code in ap₂ eqb c.character.ensures c.syn.ensures ∙ syn_test t _
