-- `same_parts` meets its contract: the header is compared first, then the text behind it. Assumes nothing.
use Rattle.std.proofs.Common.{length, take, sym, ap, ◌∙◌}
use mathlib.Core.Bool.{not, not-not}
use Rattle.std.proofs.lemmas.Slice.Eq.{bytes_eq-Decides}
use Rattle.roundtrip.proofs.Comparing.{parts_differ, parts_same}
use Rattle.block_roundtrip.proofs.compare.same_parts.Goals as goal

pub returns-then-ne : goal.returns-then-ne
returns-then-ne c =
    let a = c.args in
    parts_differ a.header.now a.text.now a.out.now (bytes_eq-Decides a.header.now (take (length a.header.now) a.out.now)) (sym (not-not _) ∙ ap not (sym c.ne.ensures ∙ c.if-ne.true))

pub returns : goal.returns
returns c =
    let a = c.args in
    rw c.eq.ensures
    (parts_same a.header.now a.text.now a.out.now (bytes_eq-Decides a.header.now (take (length a.header.now) a.out.now)) (sym (not-not _) ∙ ap not (sym c.ne.ensures ∙ c.if-ne.false))
    (bytes_eq-Decides a.text.now _))
