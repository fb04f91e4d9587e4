-- `walk` meets its contract. The loop's invariant: what is left of the walk gives the whole. The measure is what is left of the line. Assumes nothing.
use mathlib.Core.Path.{ap, ◌∙◌}
use Prim.Native.Nat.{◌+◌}
use native.Mathlib.Omega.{arith}
use Rattle.block.specs.Signs.{table_of}
use Rattle.block.specs.Walk.{judge}
use Rattle.block_framing.proofs.Turns.{on, run-within, pass, ends, start-within}
use Rattle.block_framing.proofs.walk.walk.Goals as goal

pub overflow_add-i : goal.overflow_add-i
overflow_add-i c =
    omega (arith, run-within (table_of c.args.code) c.args.seven c.in-Is.g c.args.line.now (c.loop-i.i + 1) (omega arith) c.data_run.ensures, c.loop-i.invariant.size)

pub loop-i-preserved : goal.loop-i-preserved
loop-i-preserved c =
    pass (table_of c.args.code) c.args.seven c.in-Is.g c.args.line.now (c.loop-i.i + 1) (omega arith) c.data_run.ensures
    (on c.loop-i.invariant c.loop-i-test.true c.character.ensures (c.judge.ensures ∙ ap (judge c.args.seven c.loop-i.f) c.in_koi7.ensures) c.in-Is.is c.leave-t.ensures)

pub invariant_of-ending-clause-start_small : goal.invariant_of-ending-clause-start_small
invariant_of-ending-clause-start_small c =
    omega (arith, start-within (table_of c.args.code) c.args.seven c.args.line.now c.fill_ahead.ensures, c.loop-i.invariant.size)

pub returns-in-Ends : goal.returns-in-Ends
returns-in-Ends c =
    ends c.loop-i.invariant c.loop-i-test.true c.character.ensures (c.judge.ensures ∙ ap (judge c.args.seven c.loop-i.f) c.in_koi7.ensures) c.in-Ends.is c.fill_ahead.ensures
    c.text_signs.ensures c.segments.ensures
