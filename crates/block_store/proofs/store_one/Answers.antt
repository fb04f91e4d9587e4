-- `store_one` meets its contract where there is no room. Assumes nothing.
use mathlib.Core.List.{[], ◌∷◌}
use Rattle.block_store.proofs.Stores.{stored_out}
use Rattle.block_store.proofs.store_one.Goals as goal

pub returns : goal.returns
returns c = stored_out (c.args.b ∷ []) c.if-at-out.false
