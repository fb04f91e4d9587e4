-- `walk_closed` meets its contract: questions 52, 53 and 17 are put to what the walk found. Assumes nothing.
use mathlib.Core.Path.{sym}
use native.Mathlib.Omega.{arith}
use Rattle.block.specs.Signs.{table_of}
use Rattle.block.proofs.CheckLaws.{check_short}
use Rattle.block_framing.proofs.Reading.{answer_as, after_small, refused_as, check_short_of, check_long_of, too_many, all-passed}
use Rattle.block_framing.proofs.questions.walk_closed.Goals as goal

pub returns-in_default : goal.returns-in_default
returns-in_default c =
    let a = c.args in
    refused_as (table_of a.link.code) a.link.method a.line.now c.is_seven.ensures c.walk-walked.ensures c.in_default.is

pub overflow_add-closed : goal.overflow_add-closed
overflow_add-closed c =
    let a = c.args in
    let e = answer_as (table_of a.link.code) a.link.method a.line.now c.is_seven.ensures c.walk-walked.ensures c.in-Ok.is in
    omega (arith, after_small (table_of a.link.code) a.link.method a.line.now _ e c.requires, c.check_length.ensures, check_short a.link.method)

pub returns-then-line-closed : goal.returns-then-line-closed
returns-then-line-closed c =
    let a = c.args in
    let e = answer_as (table_of a.link.code) a.link.method a.line.now c.is_seven.ensures c.walk-walked.ensures c.in-Ok.is in
    sym (check_short_of (table_of a.link.code) a.link.method a.line.now _ e (omega (arith, c.check_length.ensures)))

pub returns-then-line-closed-2 : goal.returns-then-line-closed-2
returns-then-line-closed-2 c =
    let a = c.args in
    let e = answer_as (table_of a.link.code) a.link.method a.line.now c.is_seven.ensures c.walk-walked.ensures c.in-Ok.is in
    sym (check_long_of (table_of a.link.code) a.link.method a.line.now _ e (omega (arith, c.check_length.ensures)))

pub returns-then-counted-gt-COUNTED_LIMIT : goal.returns-then-counted-gt-COUNTED_LIMIT
returns-then-counted-gt-COUNTED_LIMIT c =
    let a = c.args in
    let e = answer_as (table_of a.link.code) a.link.method a.line.now c.is_seven.ensures c.walk-walked.ensures c.in-Ok.is in
    sym (too_many (table_of a.link.code) a.link.method a.line.now _ e (omega (arith, c.check_length.ensures)) c.if-counted-gt-COUNTED_LIMIT.true)

pub returns : goal.returns
returns c =
    let a = c.args in
    let e = answer_as (table_of a.link.code) a.link.method a.line.now c.is_seven.ensures c.walk-walked.ensures c.in-Ok.is in
    sym (all-passed (table_of a.link.code) a.link.method a.line.now _ e (omega (arith, c.check_length.ensures)) c.if-counted-gt-COUNTED_LIMIT.false)
