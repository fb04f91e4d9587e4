-- `Cyclic4::join` meets its contract: generator and limit are those of the method. Assumes nothing.
use Rattle.std.proofs.Common.{refl}
use Rattle.cyclic.specs.Check.{method4}
use Rattle.joining.proofs.methods.Cyclic4Join.join.Goals as goal

pub returns : goal.returns
unfolding method4
returns c = c.join_by.ensures method4 refl refl
