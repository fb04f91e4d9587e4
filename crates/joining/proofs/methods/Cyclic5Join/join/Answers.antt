-- `Cyclic5::join` meets its contract: generator and limit are those of the method. Assumes nothing.
use Rattle.std.proofs.Common.{refl}
use Rattle.cyclic.specs.Check.{method5}
use Rattle.joining.proofs.methods.Cyclic5Join.join.Goals as goal

pub returns : goal.returns
unfolding method5
returns c = c.join_by.ensures method5 refl refl
