-- `frame_returns` meets its contract: write_frame's answer and output give the frame that read_frame reads back, and its answer and
-- output give what is compared. Assumes nothing.
use mathlib.Core.Path.{ap, ◌∙◌}
use Rattle.std.proofs.Common.{Err}
use Rattle.std.proofs.lemmas.Result.{err_from_is_err_and}
use Rattle.roundtrip.specs.Returns.{returned}
use Rattle.bits.proofs.Mapped.{value_kept, error_mapped}
use Rattle.frame_roundtrip.specs.Returns.{of_frame_return}
use Rattle.frame_roundtrip.proofs.Returns.{written_frame, taken_back, taken_returns, refused_returns}
use Rattle.frame_roundtrip.proofs.frame_returns.Goals as goal

pub returns-in_err-read : goal.returns-in_err-read
returns-in_err-read c =
    let a = c.args in
    let w = written_frame a.method a.bits a.content.now a.frame.now a.out.now _ c.write_frame.ensures (value_kept _ c.write_frame.result c.map_err.ensures.cases c.in_ok-told.was) in
    let m = error_mapped _ c.read_frame.result c.map_err-2.ensures.cases c.in_err-read.was in
    let p = err_from_is_err_and c.from_residual-in_err-read.result c.from_residual-in_err-read.ensures.1 in
    ap (λ z. returned (of_frame_return z) c.write_frame.new.out c.read_frame.new.out) (p.1 ∙ ap Err (p.2 ∙ m.2))
    ∙ refused_returns a.method a.bits a.content.now a.frame.now a.out.now w _ c.read_frame.ensures m.1
    (ap (λ z. z.output) c.write_frame.ensures)

pub same_content-requires : goal.same_content-requires
same_content-requires c =
    let a = c.args in
    let w = written_frame a.method a.bits a.content.now a.frame.now a.out.now _ c.write_frame.ensures (value_kept _ c.write_frame.result c.map_err.ensures.cases c.in_ok-told.was) in
    let b = value_kept _ c.read_frame.result c.map_err-2.ensures.cases c.in_ok-read.was in
    let t = taken_back a.method a.bits a.content.now a.frame.now a.out.now w _ c.read_frame.ensures b in
    (t.enough, t.room)

pub returns : goal.returns
returns c =
    let a = c.args in
    let w = written_frame a.method a.bits a.content.now a.frame.now a.out.now _ c.write_frame.ensures (value_kept _ c.write_frame.result c.map_err.ensures.cases c.in_ok-told.was) in
    let b = value_kept _ c.read_frame.result c.map_err-2.ensures.cases c.in_ok-read.was in
    taken_returns a.method a.bits a.content.now a.frame.now a.out.now w _ c.read_frame.ensures b
    c.same_content.ensures.1 (ap (λ z. z.output) c.write_frame.ensures)
