-- `store_clear` meets its contract. The loop's invariant: what is left to store gives the whole.
-- Assumes nothing.
use Rattle.block.specs.Signs.{table_of}
use Rattle.block.specs.Characters.{sent}
use Rattle.block_store.proofs.Stores.{turn, whole, escaped_on, escaped_out}
use Rattle.block_store.proofs.store_clear.Goals as goal

pub loop-b-preserved : goal.loop-b-preserved
loop-b-preserved c code =
    let a = c.args in
    turn (c.loop-b.invariant code)
    (escaped_on (table_of code) (sent a.seven a.parity) a.part.now c.loop-b.b-index c.loop-b-test.true)
    (c.store_escaped-next.ensures code)

pub returns : goal.returns
returns c code =
    let a = c.args in
    whole (c.loop-b.invariant code) (escaped_out (table_of code) (sent a.seven a.parity) a.part.now c.loop-b.b-index c.loop-b-test.false)
