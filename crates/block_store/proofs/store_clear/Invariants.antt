-- `store_clear` meets its contract. The loop's invariant: what is left to store gives the whole. Assumes nothing.
use Rattle.std.proofs.Common.{map, drop}
use Rattle.block.specs.declared.Code.{Code}
use Rattle.block.specs.Signs.{table_of}
use Rattle.block.specs.Characters.{sent}
use Rattle.block.specs.Write.{escaped}
use Rattle.block_store.proofs.Stores.{Storing}
use Rattle.block_store.proofs.store_clear.Given as goal

abbrev pub invariant-loop-b : goal.invariant-loop-b
invariant-loop-b l = (code : Code) → Storing l.initial.out l.at (map (sent l.seven l.parity) (escaped (table_of code) l.part)) l.out l.next (map (sent l.seven l.parity) (escaped (table_of code) (drop l.b-index l.part)))
