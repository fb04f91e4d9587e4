-- `Cyclic3::join` meets its contract: generator and limit are those of the method. Assumes nothing.
use Rattle.std.proofs.Common.{refl}
use Rattle.cyclic.specs.Check.{method3}
use Rattle.joining.proofs.methods.Cyclic3Join.join.Goals as goal

pub returns : goal.returns
unfolding method3
returns c = c.join_by.ensures method3 refl refl
