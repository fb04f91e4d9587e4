-- `last` meets its contract: the last bits, behind those that were passed. Assumes nothing.
use mathlib.Core.Path.{◌≡◌, ◌∙◌, ap, subst}
use Prim.Native.Nat.{◌+◌, ◌*◌, ◌/◌, ◌%◌}
use native.Mathlib.Omega.{arith}
use lib.ListN.{get_or}
use Rattle.std.proofs.Common.{Err, rules}
use Rattle.std.proofs.lemmas.Result.{err_from_is_err_and}
use Rattle.line_ends.specs.Last.{ReadsLast}
use Rattle.frame_walk.specs.Steps.{zero_missing_at}
use Rattle.frame_walk.specs.Walk.{of_walk}
use Rattle.bits.proofs.Mapped.{value_kept, error_mapped}
use Rattle.frame_walk.proofs.Passing.{last_missing, last_part, last_byte}
use Rattle.frame_walk.proofs.Line.last.Goals as goal

pub returns-in_err-left : goal.returns-in_err-left
returns-in_err-left c =
    let a = c.args in
    let m = error_mapped _ c.read_last.result c.map_err.ensures.cases c.in_err-left.was in
    let p = err_from_is_err_and c.from_residual.result c.from_residual.ensures.1 in
    let lacks = subst (ReadsLast a.r (get_or a.self.lent.now (a.self.end / 8) 0) (a.self.end % 8)) m.1 (c.read_last.ensures c.requires.0 (omega arith)) in
    let made : c.in_err-left.field-0.0 ≡ zero_missing_at (8 * (a.self.end / 8) + m.0.0) = search (m.2, rules) in
    ap of_walk (p.1 ∙ ap Err (p.2 ∙ made)) ∙ last_missing a.table.now a.register a.count a.r a.self.lent.now a.self.end a.self.closed lacks

pub returns-then-left-lt8 : goal.returns-then-left-lt8
returns-then-left-lt8 c =
    let a = c.args in
    last_part a.table.now a.register a.count a.r a.self.lent.now a.self.end a.self.closed (subst (ReadsLast a.r (get_or a.self.lent.now (a.self.end / 8) 0) (a.self.end % 8)) (value_kept _ c.read_last.result c.map_err.ensures.cases c.in_ok-left.was) (c.read_last.ensures c.requires.0 (omega arith))) c.if-left-lt8.true (c.enter_bits.ensures (omega (arith, c.if-left-lt8.true)))

pub returns : goal.returns
returns c =
    let a = c.args in
    let found = subst (ReadsLast a.r (get_or a.self.lent.now (a.self.end / 8) 0) (a.self.end % 8)) (value_kept _ c.read_last.result c.map_err.ensures.cases c.in_ok-left.was) (c.read_last.ensures c.requires.0 (omega arith)) in
    last_byte a.table.now a.register a.count a.r a.self.lent.now a.self.end a.self.closed found c.if-left-lt8.false c.enter_byte-whole.ensures
    (c.enter_bits-2.ensures (omega (arith, found.below, found.holds.counted)))
