-- `store_each` meets its contract. The loop's invariant: what is left to store gives the whole. Assumes nothing.
use Rattle.std.proofs.Common.{◌+◌, map, drop}
use Rattle.block.specs.Characters.{sent}
use Rattle.block_store.proofs.Stores.{Storing}
use Rattle.block_store.proofs.store_each.Given as goal

abbrev pub invariant-loop-i : goal.invariant-loop-i
invariant-loop-i l = Storing l.initial.out l.at (map (sent l.seven l.parity) l.part) l.out (l.at + l.i) (map (sent l.seven l.parity) (drop l.i l.part))
