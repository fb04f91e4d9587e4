-- `start_of` meets its contract, method by method. Assumes nothing.
use borrow.Author.Rules.{rules}
use Rattle.block_check.proofs.NumberLaws.{start-number}
use Rattle.block_check.proofs.number.start_of.Goals as goal

pub returns-in-Parity : goal.returns-in-Parity
returns-in-Parity c = rw c.in-Parity.is

pub returns-in-Matrix : goal.returns-in-Matrix
returns-in-Matrix c = rw c.in-Matrix.is

pub returns-in-Cyclic : goal.returns-in-Cyclic
returns-in-Cyclic c = rw c.in-Cyclic.is (start-number c.new-cyclic.ensures (search rules))

pub returns-in-CyclicAlternative : goal.returns-in-CyclicAlternative
returns-in-CyclicAlternative c =
    rw c.in-CyclicAlternative.is (start-number c.new-cyclic-in-CyclicAlternative.ensures (search rules))

pub returns-in-Diagonal : goal.returns-in-Diagonal
returns-in-Diagonal c = rw c.in-Diagonal.is
