-- `receive` meets its contract: each return is the rule's outcome at the questions answered on the way there. Assumes nothing.
use Rattle.std.proofs.Common.{◌∙◌, inl, inr, ⊎_elim, arith, ltb-false, ltb-true, leb-false, leb-true}
use Rattle.number.proofs.Outcomes.{bad_modulus, bad_window, bad_awaited, bad_received, all_right}
use Rattle.number.proofs.receive.Goals as goal

pub returns-then-n-lt1 : goal.returns-then-n-lt1
returns-then-n-lt1 c =
    let a = c.args in
    c.refused.ensures
    ∙ bad_modulus a.held.n a.held.w a.held.c a.number
    (⊎_elim (λ t. inl (omega arith)) (λ t. inr (omega (arith, ltb-true))) c.then-n-lt1.either)

pub returns-then-w-lt1 : goal.returns-then-w-lt1
returns-then-w-lt1 c =
    let a = c.args in
    c.refused-then-w-lt1.ensures
    ∙ bad_window a.held.n a.held.w a.held.c a.number (omega arith) (omega (arith, ltb-false))
    (⊎_elim (λ t. inl (omega arith)) (λ t. inr (omega (arith, leb-true))) c.then-w-lt1.either)

pub returns-then-m-c : goal.returns-then-m-c
returns-then-m-c c =
    let a = c.args in
    c.refused-then-m-c.ensures
    ∙ bad_awaited a.held.n a.held.w a.held.c a.number (omega arith) (omega (arith, ltb-false)) (omega arith)
    (omega (arith, leb-false)) (omega arith)

pub returns-then-m-number : goal.returns-then-m-number
returns-then-m-number c =
    let a = c.args in
    c.refused-then-m-number.ensures
    ∙ bad_received a.held.n a.held.w a.held.c a.number (omega arith) (omega (arith, ltb-false)) (omega arith)
    (omega (arith, leb-false)) (omega arith) (omega arith)

pub returns : goal.returns
returns c =
    let a = c.args in
    all_right a.held.n a.held.w a.held.c a.number (omega arith) (omega (arith, ltb-false)) (omega arith)
    (omega (arith, leb-false)) (omega arith) (omega arith) c.wrapped_difference.ensures c.judge.ensures
