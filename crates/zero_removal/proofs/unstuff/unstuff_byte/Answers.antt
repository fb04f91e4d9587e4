-- `unstuff_byte` meets its contract: each answer is that of the law of its case. Assumes nothing.
use native.Mathlib.Omega.{arith}
use Rattle.zero_removal.proofs.Removal.{received_whole, first_missing, received_one, second_missing, received-two}
use Rattle.zero_removal.proofs.unstuff.unstuff_byte.Goals as goal

pub returns-then-behind-eq0 : goal.returns-then-behind-eq0
returns-then-behind-eq0 c small =
    let a = c.args in
    received_whole a.before a.byte small (omega arith) c.fives-behind.ensures c.if-behind-eq0.true

pub returns-then-low-bits : goal.returns-then-low-bits
returns-then-low-bits c small =
    let a = c.args in
    first_missing a.before a.byte small (omega arith) c.fives-behind.ensures c.if-behind-eq0.false c.if-low-bits.true

pub returns-then-more-eq0 : goal.returns-then-more-eq0
returns-then-more-eq0 c small =
    let a = c.args in
    received_one a.before a.byte small (omega arith) c.fives-behind.ensures c.if-behind-eq0.false c.if-low-bits.false c.fives-more.ensures c.if-more-eq0.true

pub returns-then-middle-high : goal.returns-then-middle-high
returns-then-middle-high c small =
    let a = c.args in
    let f = c.fives-behind.ensures in
    let g = c.fives-more.ensures in
    second_missing a.before a.byte small (omega arith) f c.if-behind-eq0.false c.if-low-bits.false g c.if-more-eq0.false c.if-middle-high.true

pub returns : goal.returns
returns c small =
    let a = c.args in
    let f = c.fives-behind.ensures in
    let g = c.fives-more.ensures in
    received-two a.before a.byte small (omega arith) f c.if-behind-eq0.false c.if-low-bits.false g c.if-more-eq0.false c.if-middle-high.false
