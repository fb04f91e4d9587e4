-- `window_right` meets its contract: each test is the rule's. Assumes nothing.
use Rattle.sender.specs.Sender.{window_right}
use Rattle.sender.proofs.questions.window_right.Goals as goal

pub returns : goal.returns
unfolding window_right
returns c = rw c.modulus.ensures
