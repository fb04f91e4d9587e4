-- `check_length` meets its contract, method by method. Assumes nothing.
use mathlib.Core.Path.{sym}
use Rattle.block.specs.declared.Method.TheVariants as method
use Rattle.block.proofs.CheckLaws.{check_length_lem}
use Rattle.block.proofs.check.check_length.Goals as goal

pub returns-in-Parity : goal.returns-in-Parity
returns-in-Parity c = rw c.in-Parity.is (sym (check_length_lem method.Parity))

pub returns-in-Matrix : goal.returns-in-Matrix
returns-in-Matrix c = rw c.in-Matrix.is (sym (check_length_lem method.Matrix))

pub returns-in-Cyclic : goal.returns-in-Cyclic
returns-in-Cyclic c = rw c.in-Cyclic.is (sym (check_length_lem method.Cyclic))

pub returns-in-CyclicAlternative : goal.returns-in-CyclicAlternative
returns-in-CyclicAlternative c = rw c.in-CyclicAlternative.is (sym (check_length_lem method.CyclicAlternative))

pub returns-in-Diagonal : goal.returns-in-Diagonal
returns-in-Diagonal c = rw c.in-Diagonal.is (sym (check_length_lem method.Diagonal))
