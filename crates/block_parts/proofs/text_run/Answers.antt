-- `text_run` meets its contract. Assumes nothing.
use mathlib.Core.Path.{◌∙◌}
use Rattle.block.specs.Signs.{table_of}
use Rattle.block_scan.proofs.Bytes.{plain_free}
use Rattle.block_parts.proofs.text_run.Goals as goal

pub returns-then-clear : goal.returns-then-clear
returns-then-clear c = rw c.if-clear.true

pub returns-else-clear : goal.returns-else-clear
returns-else-clear c =
    let a = c.args in
    rw c.if-clear.false (c.plain_run.ensures ∙ plain_free (table_of a.code) a.seven 0 a.text.now)
