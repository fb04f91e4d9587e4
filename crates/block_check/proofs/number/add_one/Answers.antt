-- `add_one` meets its contract, method by method. Assumes nothing.
use Rattle.block_check.specs.Numbers.{number_after}
use Rattle.block_check.proofs.NumberLaws.{sum_one}
use Rattle.block_check.proofs.number.add_one.Goals as goal

pub returns-in-Parity : goal.returns-in-Parity
unfolding number_after
returns-in-Parity c = rw c.in-Parity.is

pub returns-in-Matrix : goal.returns-in-Matrix
unfolding number_after
returns-in-Matrix c = rw c.in-Matrix.is (sum_one _ _)

pub returns-in-Cyclic : goal.returns-in-Cyclic
unfolding number_after
returns-in-Cyclic c = rw c.in-Cyclic.is c.enter_one.ensures

pub returns-in-CyclicAlternative : goal.returns-in-CyclicAlternative
unfolding number_after
returns-in-CyclicAlternative c = rw c.in-CyclicAlternative.is c.enter_one-in-CyclicAlternative.ensures

pub returns-in-Diagonal : goal.returns-in-Diagonal
unfolding number_after
returns-in-Diagonal c = rw c.in-Diagonal.is c.add_both.ensures
