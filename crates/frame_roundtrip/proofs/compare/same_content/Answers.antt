-- `same_content` meets its contract: the whole bytes are compared first, then the last bits. Assumes nothing.
use Rattle.std.proofs.Common.{sym, ap, ◌∙◌}
use mathlib.Core.Bool.{not, not-not}
use Prim.Native.Nat.{◌/◌}
use lib.ListN.{take}
use Rattle.std.proofs.lemmas.Slice.Eq.{bytes_eq-Decides}
use Rattle.bits.proofs.Bytes.{bytes_of}
use Rattle.frame_roundtrip.proofs.Comparing.{bytes_differ, no_more, last_decides}
use Rattle.frame_roundtrip.proofs.compare.same_content.Goals as goal

pub returns-then-ne : goal.returns-then-ne
returns-then-ne c =
    let a = c.args in
    let x = bytes_of a.lent.now (λ i. (c.type_inv.lent i).fits) in
    let y = bytes_of a.out.now (λ i. (c.type_inv.out i).fits) in
    bytes_differ a.bits a.read a.lent.now a.out.now x y c.requires.0 c.requires.1 (bytes_eq-Decides (take (a.bits / 8) a.lent.now) (take (a.bits / 8) a.out.now)) (sym (not-not _) ∙ ap not (sym c.ne.ensures ∙ c.if-ne.true))

pub returns-then-rest-eq0 : goal.returns-then-rest-eq0
returns-then-rest-eq0 c =
    let a = c.args in
    let x = bytes_of a.lent.now (λ i. (c.type_inv.lent i).fits) in
    let y = bytes_of a.out.now (λ i. (c.type_inv.out i).fits) in
    no_more a.bits a.read a.lent.now a.out.now x y c.requires.0 c.requires.1 c.if-read-bits.false (bytes_eq-Decides (take (a.bits / 8) a.lent.now) (take (a.bits / 8) a.out.now)) (sym (not-not _) ∙ ap not (sym c.ne.ensures ∙ c.if-ne.false)) c.if-rest-eq0.true

pub returns : goal.returns
returns c =
    let a = c.args in
    let x = bytes_of a.lent.now (λ i. (c.type_inv.lent i).fits) in
    let y = bytes_of a.out.now (λ i. (c.type_inv.out i).fits) in
    last_decides a.bits a.read a.lent.now a.out.now x y c.requires.0 c.requires.1 c.if-read-bits.false (bytes_eq-Decides (take (a.bits / 8) a.lent.now) (take (a.bits / 8) a.out.now)) (sym (not-not _) ∙ ap not (sym c.ne.ensures ∙ c.if-ne.false)) c.same_bits.ensures
