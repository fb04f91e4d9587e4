-- `find_framing` meets its contract: the walk's refusals, then questions 35 and 36. Assumes nothing.
use mathlib.Core.Path.{sym, ap, ◌∙◌}
use Rattle.std.proofs.Common.{Err}
use Rattle.std.proofs.lemmas.Result.{err_from_is_err_and}
use Rattle.frame.specs.Frame.{parameters_of}
use Rattle.frame_walk.specs.Walk.{of_walk}
use Rattle.frame_framing.specs.Framing.{of_framing}
use Rattle.frame_framing.proofs.Agreement.{refused_too, closed_too}
use Rattle.frame_framing.proofs.find.find_framing.Goals as goal

pub returns : goal.returns
returns c =
    let a = c.args in
    let p = closed_too (parameters_of a.m) a.told a.lent.now (sym (ap of_walk c.in_ok-walked.was) ∙ c.walk_frame.ensures) in
    c.ask_length.ensures p.bits p.counted p.held ∙ p.asked

pub returns-in_err-walked : goal.returns-in_err-walked
returns-in_err-walked c =
    let a = c.args in
    let p = err_from_is_err_and c.from_residual.result c.from_residual.ensures.1 in
    ap of_framing (p.1 ∙ ap Err p.2)
    ∙ refused_too (parameters_of a.m) a.told a.lent.now (sym (ap of_walk c.in_err-walked.was) ∙ c.walk_frame.ensures)
