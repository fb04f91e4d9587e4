-- `submit_to` meets its contract, which is that of `submit`. Assumes nothing.
use Rattle.sender.proofs.calls.submit_to.Goals as goal

pub returns : goal.returns
returns c = c.submit-submitted.ensures
