-- `stored_bytes` meets its contract: the cell is among the w, and the block ends within it. Assumes nothing.
use Rattle.std.proofs.Common.{arith}
use Rattle.sender.proofs.Rings.{back-below}
use Rattle.sender.proofs.Cells.{short_at}
use Rattle.sender.proofs.sending.stored_bytes.Goals as goal

pub bounds-station-cell : goal.bounds-station-cell
bounds-station-cell c =
    let a = c.args in
    omega (arith, c.back-cell.ensures, back-below a.w a.station.cell a.d (omega (arith, c.requires.few)), c.requires.w_most)

pub slice_bounds-result-end : goal.slice_bounds-result-end
slice_bounds-result-end c =
    let a = c.args in
    omega (
      arith,
      c.back-cell.ensures,
      back-below a.w a.station.cell a.d (omega (arith, c.requires.few)),
      short_at a.station.lengths c.back-cell.result (c.requires.lengths_most),
      c.requires.room,
    )
