-- `take_column` meets its contract: a turn takes the byte of row r. Assumes nothing.
use Rattle.std.proofs.Common.{◌<◌, length, arith}
use Rattle.interleave.specs.Steps.{size}
use Rattle.interleave.proofs.Walk.{place_inside, returned_next}
use Rattle.interleave.proofs.columns.take_column.Goals as goal

pub overflow_add-out : goal.overflow_add-out
overflow_add-out c =
    let a = c.args in
    let s : c.loop-r.r < size a.d (length a.line.now) a.c = omega arith in
    omega (arith, place_inside a.d a.c a.k (length a.line.now) c.loop-r.r c.requires.column c.requires.begins s)

pub bounds-line-k : goal.bounds-line-k
bounds-line-k c =
    let a = c.args in
    let s : c.loop-r.r < size a.d (length a.line.now) a.c = omega arith in
    omega (arith, place_inside a.d a.c a.k (length a.line.now) c.loop-r.r c.requires.column c.requires.begins s)

pub loop-r-preserved : goal.loop-r-preserved
loop-r-preserved c before z =
    let a = c.args in
    let q = c.requires in
    let s : c.loop-r.r < size a.d (length a.line.now) a.c = omega arith in
    returned_next a.d a.c a.k c.loop-r.r a.line.now q.column q.begins s before c.loop-r.out (omega arith) (c.loop-r.invariant before z)
