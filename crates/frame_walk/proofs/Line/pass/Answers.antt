-- `pass` meets its contract. The loop's invariant: what is left to pass gives the whole. Assumes nothing.
use mathlib.Core.Path.{◌≡◌, ◌∙◌, ap, subst}
use Prim.Native.Nat.{◌+◌, ◌*◌, ◌/◌}
use native.Mathlib.Omega.{arith}
use lib.ListN.{get_or}
use Rattle.std.proofs.Common.{Err, rules}
use Rattle.std.proofs.lemmas.Result.{err_from_is_err_and}
use Rattle.zero_removal.specs.Removal.{Receives}
use Rattle.frame_walk.specs.Steps.{zero_missing_at}
use Rattle.frame_walk.specs.Walk.{of_walk}
use Rattle.zero_removal.proofs.Parts.{byte_between}
use Rattle.bits.proofs.Mapped.{value_kept, error_mapped}
use Rattle.frame_walk.proofs.Passing.{pass_begin, pass_missing, pass_turn, pass_part}
use Rattle.frame_walk.proofs.Line.pass.Goals as goal
use Rattle.frame_walk.proofs.Line.pass.Goals.{in-Some, in_default}

pub loop-i-init : goal.loop-i-init
loop-i-init c = pass_begin c.args.table.now c.args.start c.args.self.lent.now c.args.self.end c.args.self.opened c.new-r.ensures

pub returns-in_err-got : goal.returns-in_err-got
returns-in_err-got c =
    let v = c.loop-i.invariant in
    let l = c.loop-i-test.true in
    let m = error_mapped _ c.unstuff_byte.result c.map_err.ensures.cases c.in_err-got.was in
    let p = err_from_is_err_and c.from_residual.result c.from_residual.ensures.1 in
    let same = byte_between c.args.self.lent.now (c.args.self.end / 8) c.loop-i.i-counter (omega (arith, l)) in
    let got = subst (λ b. Receives c.loop-i.r.before b c.unstuff_byte.result) same (c.unstuff_byte.ensures v.fits.before_small) in
    let lacks = subst (Receives c.loop-i.r.before (get_or c.args.self.lent.now (c.loop-i.i-counter + 1) 0)) m.1 got in
    let made : c.in_err-got.field-0.0 ≡ zero_missing_at (8 * (c.loop-i.i-counter + 1) + m.0.0) = search (m.2, rules) in
    ap of_walk (p.1 ∙ ap Err (p.2 ∙ made)) ∙ pass_missing c.args.self.closed v (omega (arith, l)) lacks

pub loop-i-preserved : goal.loop-i-preserved
loop-i-preserved c =
    let v = c.loop-i.invariant in
    let l = c.loop-i-test.true in
    let same = byte_between c.args.self.lent.now (c.args.self.end / 8) c.loop-i.i-counter (omega (arith, l)) in
    let got = subst (λ b. Receives c.loop-i.r.before b c.unstuff_byte.result) same (c.unstuff_byte.ensures v.fits.before_small) in
    let kept = value_kept _ c.unstuff_byte.result c.map_err.ensures.cases c.in_ok-got.was in
    let e = c.read_bits-read.ensures _ v.fits (subst (Receives c.loop-i.r.before (get_or c.args.self.lent.now (c.loop-i.i-counter + 1) 0)) kept got) in
    elim c.match-read.branch [
      | in-Some w ↦ rw w.count-is (pass_turn c.args.self.closed v (omega (arith, l)) e w.in-Some.is (search rules) (w.register-is ∙ w.enter_byte-register.ensures))
      | in_default w ↦ rw (w.count-is, w.register-is) (pass_part c.args.self.closed v (omega (arith, l)) e w.in_default.is)
    ]
