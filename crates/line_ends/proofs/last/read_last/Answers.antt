-- `read_last` meets its contract: the marked byte gives the last bits, and the mark behind them tells how many. Assumes nothing.
use mathlib.Core.Path.{◌∙◌, ap, subst, sym}
use Rattle.std.proofs.Common.{Err, rules}
use Rattle.std.proofs.lemmas.Result.{err_from_is_err_and}
use Rattle.line_ends.specs.Last.{ReadsLast}
use Rattle.line_ends.proofs.Marked.{read_marked, last_missing, last_part, last_whole}
use Rattle.line_ends.proofs.last.read_last.Goals as goal

pub returns-in_err-got : goal.returns-in_err-got
returns-in_err-got c fits h =
    let a = c.args in
    let p = err_from_is_err_and c.from_residual.result c.from_residual.ensures.1 in
    subst (ReadsLast a.r a.byte a.k) (sym (p.1 ∙ ap Err p.2)) (last_missing a.r a.byte a.k h (c.in_err-got.ensures fits.before_small))

pub returns-in_default : goal.returns-in_default
returns-in_default c fits h =
    let a = c.args in
    let e = c.read_bits-read.ensures _ fits (c.in_ok-got.ensures fits.before_small) in
    last_part a.r a.byte a.k h (read_marked a.byte a.k h e) c.in_default.is c.below_mark.ensures

pub returns : goal.returns
returns c fits h =
    let a = c.args in
    let e = c.read_bits-read.ensures _ fits (c.in_ok-got.ensures fits.before_small) in
    last_whole a.r a.byte a.k h (read_marked a.byte a.k h e) (search rules) c.in-Some.is c.below_mark-2.ensures
