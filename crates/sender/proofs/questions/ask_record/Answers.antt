-- `ask_record` meets its contract: the first question that is not passed gives its number. Assumes nothing.
use Rattle.std.proofs.Common.{inl, inr, ⊎_elim, arith, ltb-false, ltb-true}
use Rattle.sender.proofs.Passed.{bad_modulus, bad_window, bad_record, record_passes}
use Rattle.sender.proofs.questions.ask_record.Goals as goal

pub returns-then-n-lt1 : goal.returns-then-n-lt1
returns-then-n-lt1 c next =
    let a = c.args in
    bad_modulus a.n a.w a.station next (⊎_elim (λ t. inl (omega arith)) (λ t. inr (omega (arith, ltb-true))) c.then-n-lt1.either)

pub returns-then-not-window_right : goal.returns-then-not-window_right
returns-then-not-window_right c next =
    let a = c.args in
    bad_window a.n a.w a.station next (omega arith) (omega (arith, ltb-false)) c.window_right.ensures c.if-not-window_right.true

pub returns-then-not-record_right : goal.returns-then-not-record_right
returns-then-not-record_right c next =
    let a = c.args in
    bad_record a.n a.w a.station next (omega arith) (omega (arith, ltb-false)) c.window_right.ensures c.if-not-window_right.false c.record_right.ensures c.if-not-record_right.true

pub returns : goal.returns
returns c next =
    let a = c.args in
    record_passes a.n a.w a.station next (omega arith) (omega (arith, ltb-false)) c.window_right.ensures c.if-not-window_right.false c.record_right.ensures c.if-not-record_right.false
