-- `store_each` meets its contract: all characters are stored, or all that have room. Assumes nothing.
use Rattle.std.proofs.Common.{◌≡◌, arith, length, take}
use lib.ListN.{length-take}
use Rattle.block.specs.Characters.{sent}
use Rattle.block_store.proofs.Stores.{map-all}
use Rattle.block_store.proofs.store_each.Goals as goal

pub returns : goal.returns
returns c =
    let a = c.args in
    let l = c.loop-i in
    let fits = length-take c.min.result a.part.now in
    let end : l.i ≡ length (take c.min.result a.part.now) = omega (arith, c.loop-i-test.false, l.auto.i-end) in
    rw (← end) (map-all (sent a.seven a.parity) a.part.now l.i l.invariant (λ h. omega (arith, h, end, fits, c.min.ensures, c.saturating_sub.ensures, l.invariant.same)))
