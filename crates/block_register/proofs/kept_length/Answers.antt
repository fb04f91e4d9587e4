-- `kept_length` meets its contract: no run behind a DLE, else that of what is kept. Assumes nothing.
use Rattle.block.specs.Signs.{table_of}
use Rattle.block_register.proofs.ClearRuns.{run_none, run_kept}
use Rattle.block_register.proofs.kept_length.Goals as goal

pub returns-then-behind : goal.returns-then-behind
returns-then-behind c = run_none (table_of c.args.code) _ c.args.part.now

pub returns : goal.returns
returns c = rw c.if-behind.false (run_kept (table_of c.args.code) c.args.part.now c.short_run.ensures)
