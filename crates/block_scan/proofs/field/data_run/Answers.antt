-- `data_run` meets its contract in the fields without data. Assumes nothing.
use mathlib.Core.Path.{refl, sym}
use Rattle.block_scan.proofs.Bytes.{no_run}
use Rattle.block_scan.proofs.field.data_run.Goals as goal

pub returns-in-Start : goal.returns-in-Start
returns-in-Start c = rw c.in-Start.is (sym (no_run _ (λ b. refl)))

pub returns-in-StartDle : goal.returns-in-StartDle
returns-in-StartDle c = rw c.in-StartDle.is (sym (no_run _ (λ b. refl)))

pub returns-in-HeaderDle : goal.returns-in-HeaderDle
returns-in-HeaderDle c = rw c.in-HeaderDle.is (sym (no_run _ (λ b. refl)))

pub returns-in-ClearDle : goal.returns-in-ClearDle
returns-in-ClearDle c = rw c.in-ClearDle.is (sym (no_run _ (λ b. refl)))
