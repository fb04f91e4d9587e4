-- `sixteen_sent` meets its contract: a turn makes the next byte. Assumes nothing.
use Rattle.std.proofs.Common.{rules, ◌≡◌, ◌+◌, ◌∙◌, ap, sym, subst, length, get_or, drop, arith}
use Rattle.std.proofs.lemmas.List.{drop-drop, get_or-drop, drop-set-lt}
use Rattle.block.specs.Characters.{sent}
use Rattle.block_store.proofs.Stores.{changed-next}
use Rattle.block_store.proofs.sixteen_sent.Goals as goal

pub loop-byte-preserved : goal.loop-byte-preserved
loop-byte-preserved c =
    let v = c.loop-byte in
    let i = v.byte-index in
    let h = v.invariant in
    let still : i + 0 ≡ i = omega arith in
    let same : get_or v.byte-items i 0 ≡ get_or c.args.part.now i 0 =
    subst (λ k. get_or v.byte-items k 0 ≡ get_or c.args.part.now k 0) still
    (sym (get_or-drop i v.byte-items 0 0) ∙ ap (λ xs. get_or xs 0 0) h.behind ∙ get_or-drop i c.args.part.now 0 0) in
    let on : drop (i + 1) v.byte-items ≡ drop (i + 1) c.args.part.now = sym (drop-drop 1 i v.byte-items) ∙ ap (drop 1) h.behind ∙ drop-drop 1 i c.args.part.now in
    let long : length c.args.part.now ≡ 16 = search rules in
    record {
      long = search rules;
      made = changed-next (sent c.args.seven c.args.parity) v.byte-items c.args.part.now i (omega (arith, h.long, c.loop-byte-test.true)) (omega (arith, long, h.long, c.loop-byte-test.true)) c.sent.ensures same h.made;
      behind = drop-set-lt (i + 1) v.byte-items i _ (omega arith) ∙ on;
    }
