-- `put_column` meets its contract: a turn puts the byte of row r. Assumes nothing.
use Rattle.std.proofs.Common.{◌<◌, length, arith}
use Rattle.interleave.specs.Steps.{size}
use Rattle.interleave.proofs.Walk.{place_inside, sent_next}
use Rattle.interleave.proofs.columns.put_column.Goals as goal

pub overflow_add-out-in-loop-r : goal.overflow_add-out-in-loop-r
overflow_add-out-in-loop-r c =
    let a = c.args in
    let s : c.loop-r.r < size a.d (length a.text.now) a.c = omega arith in
    omega (arith, place_inside a.d a.c a.k (length a.text.now) c.loop-r.r c.requires.column c.requires.begins s)

pub bounds-out-k : goal.bounds-out-k
bounds-out-k c =
    let a = c.args in
    let s : c.loop-r.r < size a.d (length a.text.now) a.c = omega arith in
    omega (arith, place_inside a.d a.c a.k (length a.text.now) c.loop-r.r c.requires.column c.requires.begins s)

pub loop-r-preserved : goal.loop-r-preserved
loop-r-preserved c before z =
    let a = c.args in
    let q = c.requires in
    let s : c.loop-r.r < size a.d (length a.text.now) a.c = omega arith in
    sent_next a.d a.c a.k c.loop-r.r a.text.now q.column q.begins s before c.loop-r.out (c.loop-r.invariant before z)
