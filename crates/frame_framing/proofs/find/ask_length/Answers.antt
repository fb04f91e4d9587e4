-- `ask_length` meets its contract: questions 35 and 36 are put to the number of bits that the walk passed. Assumes nothing.
use native.Mathlib.Omega.{arith}
use Rattle.frame.specs.Frame.{parameters_of}
use Rattle.frame.proofs.Sizes.{sizes}
use Rattle.frame_framing.proofs.Length.{no_content, too_long, within_limit}
use Rattle.frame_framing.proofs.find.ask_length.Goals as goal

pub overflow_add-width : goal.overflow_add-width
overflow_add-width c = omega (arith, (sizes c.args.m).width_small)

pub returns-then-w-width : goal.returns-then-w-width
returns-then-w-width c s counted held =
    let a = c.args in
    no_content (parameters_of a.m) a.w.end s counted (omega arith)

pub overflow_add-limit_bits : goal.overflow_add-limit_bits
overflow_add-limit_bits c = let z = sizes c.args.m in omega arith

pub returns-then-w-limit_bits : goal.returns-then-w-limit_bits
returns-then-w-limit_bits c s counted held =
    let a = c.args in
    too_long (parameters_of a.m) a.w.end s counted (omega arith) (omega arith)

pub returns : goal.returns
returns c s counted held =
    let a = c.args in
    within_limit (parameters_of a.m) a.w.end s counted (omega arith) held c.residue.ensures (omega arith)
