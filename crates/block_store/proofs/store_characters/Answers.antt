-- `store_characters` meets its contract: the first 16 bytes and the rest, stored one after the other, are the whole. Assumes nothing.
use Rattle.std.proofs.Common.{◌+◌, ◌-◌, arith, rules}
use Rattle.block.specs.Characters.{sent}
use Rattle.block_store.proofs.Stores.{first_at_once}
use Rattle.block_store.proofs.store_characters.Goals as goal

pub returns : goal.returns
returns c =
    let a = c.args in
    let s = c.in-Some.ensures.cases in
    first_at_once (sent a.seven a.parity) 16 a.part.now a.out.now a.at {m = a.at + 16 - a.at} {first = c.in-Some.first.now} {rest = c.in-Some.rest.now} {bytes = c.copy_from_slice.new.self} (search rules) (search rules) (omega arith) s.0 s.1 (search rules) c.store_each.ensures
