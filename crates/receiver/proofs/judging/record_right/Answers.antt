-- `record_right` meets its contract: each test is the rule's. Assumes nothing.
use Rattle.receiver.specs.Receiver.{record_right}
use Rattle.receiver.proofs.judging.record_right.Goals as goal

pub returns : goal.returns
unfolding record_right
returns c = rw (c.is_method.ensures, c.is_method-2.ensures, c.modulus.ensures)
