-- `record_right` meets its contract: each test is the rule's. Assumes nothing.
use Rattle.sender.specs.Sender.{record_right}
use Rattle.sender.proofs.questions.record_right.Goals as goal

pub returns : goal.returns
unfolding record_right
returns c = rw (c.modulus.ensures, c.lengths_right.ensures, c.is_method.ensures, c.is_method-2.ensures)
