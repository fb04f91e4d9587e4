-- `store_escaped` meets its contract at a DLE, which is stored twice. Assumes nothing.
use mathlib.Core.Path.{ap}
use mathlib.Core.List.{[], ◌∷◌}
use borrow.Author.Tests.{eq-eqb}
use Rattle.block.specs.Signs.{table_of}
use Rattle.block_store.proofs.Stores.{stored_as, stored-append}
use Rattle.block_store.proofs.store_escaped.Goals as goal

pub returns-then-b-eq-DLE : goal.returns-then-b-eq-DLE
returns-then-b-eq-DLE c code =
    rw (eq-eqb c.args.b (table_of code).DLE c.if-b-eq-DLE.true)
    (stored_as (ap (λ x. x ∷ x ∷ []) c.sent-byte.ensures) (stored-append c.store_one-next.ensures c.store_one.ensures))
