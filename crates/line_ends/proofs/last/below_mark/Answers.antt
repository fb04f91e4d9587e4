-- `below_mark` meets its contract: the highest one is the mark. Assumes nothing.
use Rattle.line_ends.proofs.Marked.{below_mark}
use Rattle.line_ends.proofs.last.below_mark.Goals as goal

pub returns : goal.returns
returns c n s j h small e = below_mark c.args.marked n small s j e h
