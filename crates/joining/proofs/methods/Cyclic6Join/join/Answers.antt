-- `Cyclic6::join` meets its contract: generator and limit are those of the method. Assumes nothing.
use Rattle.std.proofs.Common.{refl}
use Rattle.cyclic.specs.Check.{method6}
use Rattle.joining.proofs.methods.Cyclic6Join.join.Goals as goal

pub returns : goal.returns
unfolding method6
returns c = c.join_by.ensures method6 refl refl
