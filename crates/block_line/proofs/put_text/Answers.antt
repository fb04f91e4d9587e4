-- `put_text` meets its contract, in clear text and in plain. Assumes nothing.
use Rattle.block_line.specs.Line.{text_bytes}
use Rattle.block_line.proofs.put_text.Goals as goal

pub returns-then-clear : goal.returns-then-clear
unfolding text_bytes
returns-then-clear c code = rw c.if-clear.true (c.store_clear.ensures code)

pub returns : goal.returns
unfolding text_bytes
returns c code = rw c.if-clear.false c.store_characters.ensures
