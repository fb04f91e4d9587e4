-- `judge` meets its contract: 41 and 51, then as the number check says. Assumes nothing.
use Rattle.std.proofs.Common.{inl, inr, ⊎_elim, arith, sym, ◌∙◌, ap, ltb-true}
use Rattle.number.specs.Number.{outcome, refused}
use Rattle.receiver.specs.Answers.{number_of}
use Rattle.receiver.proofs.Telling.{bad_modulus, bad_record, check_answered, check_refused}
use Rattle.receiver.proofs.judging.judge.Goals as goal

pub returns-then-receiver-lt1 : goal.returns-then-receiver-lt1
returns-then-receiver-lt1 c =
    let a = c.args in
    bad_modulus a.receiver a.number (⊎_elim (λ t. inl (omega arith)) (λ t. inr (omega (arith, ltb-true))) c.then-receiver-lt1.either)

pub returns-then-not-record_right : goal.returns-then-not-record_right
returns-then-not-record_right c =
    let a = c.args in
    bad_record a.receiver a.number (omega arith) (omega arith) (sym c.record_right.ensures ∙ c.if-not-record_right.true)

pub returns-in-Ok : goal.returns-in-Ok
returns-in-Ok c =
    let a = c.args in
    check_answered a.receiver a.number (omega arith) (omega arith) c.receive-received.result c.receive-received.ensures
    (sym c.record_right.ensures ∙ c.if-not-record_right.false) c.in-Ok.verdict c.in-Ok.is

pub returns-in-Err : goal.returns-in-Err
returns-in-Err c =
    let a = c.args in
    ap (λ x. outcome a.receiver.n a.receiver.w a.receiver.c (refused (number_of x))) c.from.ensures
    ∙ check_refused a.receiver a.number (omega arith) (omega arith) c.receive-received.result c.receive-received.ensures
    (sym c.record_right.ensures ∙ c.if-not-record_right.false) c.in-Err.refusal c.in-Err.is
