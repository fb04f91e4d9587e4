-- `find_framing` meets its contract: questions 58, 11 and 12, then the walk. Assumes nothing.
use mathlib.Core.Path.{◌∙◌}
use native.Mathlib.Omega.{arith}
use Rattle.block.specs.Signs.{table_of}
use Rattle.block_framing.proofs.Reading.{not_carried, too_long, eight_bit, wrong_parity, right-parity}
use Rattle.block_framing.proofs.questions.find_framing.Goals as goal

pub returns-then-not-carries : goal.returns-then-not-carries
returns-then-not-carries c =
    let l = c.args.link in
    not_carried (table_of l.code) l.method l.parity c.args.line.now c.carries.ensures c.if-not-carries.true

pub returns-then-line-gt-LINE_LIMIT : goal.returns-then-line-gt-LINE_LIMIT
returns-then-line-gt-LINE_LIMIT c =
    let l = c.args.link in
    too_long (table_of l.code) l.method l.parity c.args.line.now c.carries.ensures c.if-not-carries.false (omega arith)

pub returns-then-not-is_seven : goal.returns-then-not-is_seven
returns-then-not-is_seven c =
    let l = c.args.link in
    c.walk_closed.ensures
    ∙ eight_bit (table_of l.code) l.method l.parity c.args.line.now c.carries.ensures c.if-not-carries.false (omega arith) c.is_seven.ensures c.if-not-is_seven.true

pub returns-then-at-line : goal.returns-then-at-line
returns-then-at-line c =
    let l = c.args.link in
    wrong_parity (table_of l.code) l.method l.parity c.args.line.now c.carries.ensures c.if-not-carries.false (omega arith) c.is_seven.ensures c.if-not-is_seven.false c.first_wrong-at.ensures (omega arith)

pub returns : goal.returns
returns c =
    let l = c.args.link in
    c.walk_closed-2.ensures
    ∙ right-parity (table_of l.code) l.method l.parity c.args.line.now c.carries.ensures c.if-not-carries.false (omega arith) c.is_seven.ensures c.if-not-is_seven.false c.first_wrong-at.ensures (omega arith)
