-- `put_columns` meets its contract: behind the last column all places are done. Assumes nothing.
use Rattle.std.proofs.Common.{◌≡◌, suc, ◌+◌, ◌≤◌, length, arith, ap, ◌∙◌, refl, subst}
use Rattle.interleave.specs.Steps.{start, Sent}
use Rattle.interleave.proofs.Starts.{start-zero, start-suc, start-mono, start-end}
use Rattle.interleave.proofs.columns.put_columns.Goals as goal

pub loop-c-init : goal.loop-c-init
loop-c-init c = (start-zero c.args.d (length c.args.text.now), record { same = refl; left = refl })

pub overflow_add-k : goal.overflow_add-k
overflow_add-k c =
    let d = c.args.d in
    let n = length c.args.text.now in
    let l : suc c.loop-c.c ≤ d = omega arith in
    omega (arith, c.loop-c.invariant.0, c.column_length-length.ensures, start-suc d n c.requires.d_least c.loop-c.c, start-mono d n c.requires.d_least (suc c.loop-c.c) d l, start-end d n c.requires.d_least)

pub loop-c-preserved : goal.loop-c-preserved
loop-c-preserved c =
    let d = c.args.d in
    let n = length c.args.text.now in
    let e : suc c.loop-c.c ≡ c.loop-c.c + 1 = omega arith in (
      omega (arith, c.loop-c.invariant.0, c.column_length-length.ensures, start-suc d n c.requires.d_least c.loop-c.c, ap (start d n) e),
      c.put_column.ensures c.args.out.now c.loop-c.invariant.1,
    )

pub returns : goal.returns
returns c =
    let a = c.args in
    let n = length a.text.now in
    let e : c.loop-c.c ≡ a.d = omega arith in
    subst (λ k. Sent a.d a.text.now a.out.now c.loop-c.out k) (c.loop-c.invariant.0 ∙ ap (start a.d n) e ∙ start-end a.d n c.requires.d_least) c.loop-c.invariant.1
