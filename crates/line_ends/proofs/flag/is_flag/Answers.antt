-- `is_flag` meets its contract: the eight bits stand in one byte or in two. Assumes nothing.
use native.Mathlib.Omega.{arith}
use mathlib.Core.Path.{◌≡◌, sym, ap, ◌∙◌}
use Prim.Native.Nat.{◌+◌, ◌/◌, ◌%◌}
use native.Mathlib.Nat.{mod-eq_of_lt}
use lib.Dec.{eqb}
use lib.ListN.{get_or}
use Rattle.line_ends.proofs.Eight.{flag-none, flag-value, one_byte, two_bytes}
use Rattle.line_ends.proofs.flag.is_flag.Goals as goal

pub returns-then-index-line : goal.returns-then-index-line
returns-then-index-line c =
    let a = c.args in
    flag-none a.line.now a.at (omega (arith, c.if-index-line.true))

pub returns-then-shift-eq0 : goal.returns-then-shift-eq0
returns-then-shift-eq0 c =
    let a = c.args in
    let b = get_or a.line.now (a.at / 8) 0 in
    let small : b % 256 ≡ b = mod-eq_of_lt (c.shared_slice_known-1.given (a.at / 8)).fits in
    ap (λ n. eqb n 0x7E) (sym small)
    ∙ flag-value a.line.now a.at b (one_byte a.line.now a.at c.if-shift-eq0.true c.if-index-line.false)

pub returns-then-index-line-2 : goal.returns-then-index-line-2
returns-then-index-line-2 c =
    let a = c.args in
    flag-none a.line.now a.at (omega (arith, c.if-index-line-2.true, c.if-shift-eq0.false))

pub returns : goal.returns
returns c =
    let a = c.args in
    let given = c.shared_slice_known-3-1.given in
    flag-value a.line.now a.at _ (two_bytes a.line.now a.at c.if-index-line-2.false (given (a.at / 8)).fits (given (a.at / 8 + 1)).fits)
