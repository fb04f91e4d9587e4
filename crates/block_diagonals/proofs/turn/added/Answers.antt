-- `added` meets its contract: the next place, and none. Assumes nothing.
use Rattle.std.proofs.Common.{refl, sym, ◌∙◌, add-one, arith}
use lib.ListN.{drop_of_length-le}
use Rattle.block_diagonals.proofs.Pieces.{next_place, all_places}
use Rattle.block_diagonals.proofs.turn.added.Goals as goal

pub loop-i-preserved : goal.loop-i-preserved
loop-i-preserved c =
    let xs = c.args.sums.now in
    let ys = c.args.piece.now in
    let i = c.loop-i.i in
    rw add-one
    (next_place i xs ys c.loop-i.added (omega (arith, c.told-sums)) (omega (arith, c.told-piece)) refl ∙ c.loop-i.invariant)

pub returns : goal.returns
returns c =
    let xs = c.args.sums.now in
    let ys = c.args.piece.now in
    all_places c.loop-i.i xs ys xs c.loop-i.added (c.told-sums ∙ sym c.told-piece) refl (drop_of_length-le ys (omega (arith, c.told-piece))) c.loop-i.invariant
