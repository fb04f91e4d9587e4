-- `walk_frame` meets its contract: questions 31 and 32, then that of the bits between the flags. Assumes nothing.
use mathlib.Core.Path.{sym, ◌∙◌}
use native.Mathlib.Omega.{arith}
use Rattle.frame.specs.Frame.{parameters_of}
use Rattle.frame_walk.proofs.Flags.{lent_short, no_two_flags, no_opening_flag, no_closing_flag, both_flags}
use Rattle.frame_walk.proofs.questions.walk_frame.Goals as goal

pub returns-then-bytes-lent : goal.returns-then-bytes-lent
returns-then-bytes-lent c =
    let a = c.args in
    lent_short (parameters_of a.m) a.lent.now a.told (omega arith)

pub returns-then-told-lt16 : goal.returns-then-told-lt16
returns-then-told-lt16 c =
    let a = c.args in
    no_two_flags (parameters_of a.m) a.lent.now a.told (omega arith) c.if-told-lt16.true

pub returns-then-not-is_flag : goal.returns-then-not-is_flag
returns-then-not-is_flag c =
    let a = c.args in
    no_opening_flag (parameters_of a.m) a.lent.now a.told (omega arith) c.if-told-lt16.false
    (sym c.is_flag.ensures ∙ c.if-not-is_flag.true)

pub returns-then-not-is_flag-2 : goal.returns-then-not-is_flag-2
returns-then-not-is_flag-2 c =
    let a = c.args in
    no_closing_flag (parameters_of a.m) a.lent.now a.told (omega arith) c.if-told-lt16.false
    (sym c.is_flag.ensures ∙ c.if-not-is_flag.false)
    (sym c.is_flag-2.ensures ∙ c.if-not-is_flag-2.true)

pub returns : goal.returns
returns c =
    let a = c.args in
    c.walk.ensures
    ∙ both_flags (parameters_of a.m) a.lent.now a.told (omega arith) c.if-told-lt16.false
    (sym c.is_flag.ensures ∙ c.if-not-is_flag.false)
    (sym c.is_flag-2.ensures ∙ c.if-not-is_flag-2.false)
