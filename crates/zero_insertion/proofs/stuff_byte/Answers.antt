-- `stuff_byte` meets its contract: each answer is that of the law of its case. Assumes nothing.
use native.Mathlib.Omega.{arith}
use Rattle.zero_insertion.proofs.Insertion.{sent_whole, sent_one, sent-two}
use Rattle.zero_insertion.proofs.stuff_byte.Goals as goal

pub returns-then-fifths-eq0 : goal.returns-then-fifths-eq0
returns-then-fifths-eq0 c small =
    let a = c.args in
    sent_whole a.before a.byte small (omega arith) c.fives-fifths.ensures c.if-fifths-eq0.true

pub returns-then-more-eq0 : goal.returns-then-more-eq0
returns-then-more-eq0 c small =
    let a = c.args in
    let f = c.fives-fifths.ensures in
    sent_one a.before a.byte small (omega arith) f c.if-fifths-eq0.false c.fives-more.ensures c.if-more-eq0.true

pub returns : goal.returns
returns c small =
    let a = c.args in
    let f = c.fives-fifths.ensures in
    sent-two a.before a.byte small (omega arith) f c.if-fifths-eq0.false c.fives-more.ensures c.if-more-eq0.false
