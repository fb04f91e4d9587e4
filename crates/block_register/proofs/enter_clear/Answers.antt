-- `enter_clear` meets its contract: a byte, kept or not, and the run behind it. Assumes nothing.
use Rattle.std.proofs.Common.{◌≡◌, refl, sym, ap, ◌∙◌, [], ◌∷◌, rules}
use Rattle.bits.specs.Differences.{cons_if}
use Rattle.generator16.specs.Register.{register_after}
use Rattle.generator16.proofs.Registers.{after-nil}
use Rattle.block_register.proofs.ClearRuns.{pass, nothing-left}
use Rattle.block_register.proofs.enter_clear.Goals.{then-keeps, else-keeps}
use Rattle.block_register.proofs.enter_clear.Goals as goal

pub loop-b-init : goal.loop-b-init
loop-b-init g c = rw c.new-keeping.ensures record { clear = refl; eight = refl; left = refl }

pub loop-b-preserved : goal.loop-b-preserved
loop-b-preserved g c =
    let p = g.G.Generator.generator in
    let l = c.loop-b in
    let b = c.in-Some.b.now in
    let is : l.rest.now ≡ b ∷ c.in-Some.after.now = search rules in
    let entered : c.if-keeps.register ≡ register_after p l.register (cons_if c.keeps.result b []) =
    elim c.if-keeps.branch [
      | then-keeps w ↦ rw w.if-keeps.true (w.register-is ∙ w.enter_one-register.ensures)
      | else-keeps w ↦ rw w.if-keeps.false (w.register-is ∙ sym (after-nil p l.register))
    ] in
    record {
      clear = ap (λ k. k.clear) c.keeps.ensures.1 ∙ l.invariant.clear;
      eight = ap (λ k. k.seven) c.keeps.ensures.1 ∙ l.invariant.eight;
      left = pass p l.keeping l.register l.invariant.clear l.invariant.eight l.invariant.left is c.keeps.ensures.0 entered c.keeps.ensures.1 c.kept_length.ensures c.split_at.ensures.front c.split_at.ensures.back c.enter_run-register.ensures;
    }

pub returns : goal.returns
returns g c =
    let l = c.loop-b in
    nothing-left g.G.Generator.generator l.keeping l.register l.rest.now c.in_default.ensures.cases l.invariant.left
