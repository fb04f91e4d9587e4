-- `new` meets its contract: the whole bytes, then the low bits of the byte behind them. Assumes nothing.
use mathlib.Core.Path.{◌≡◌, sym, ap, ◌∙◌}
use Prim.Native.Nat.{◌/◌, ◌%◌}
use native.Mathlib.Omega.{arith}
use lib.Bits.{bit_and}
use lib.ListN.{take, length-take}
use Rattle.std.proofs.lemmas.Nat.{and_mask}
use mathlib.Core.List.{◌++◌}
use Rattle.bits.specs.Bytes.{low_bits, bits_of}
use Rattle.frame.proofs.Told.{told_parts, told_whole}
use Rattle.frame_writer.proofs.Content.new.Goals as goal
use Rattle.frame_writer.proofs.Content.new.Goals.{then-rest-eq0, else-rest-eq0}

pub bounds-lent-whole : goal.bounds-lent-whole
bounds-lent-whole c = omega (arith, c.requires.0, c.if-rest-eq0.false, and_mask c.args.bits 3)

pub invariant_of-result : goal.invariant_of-result
invariant_of-result c = record { bytes_small = omega (arith, c.requires.1, length-take (c.args.bits / 8) c.args.lent.now); bits_few = omega (arith, and_mask c.args.bits 3) }

pub returns : goal.returns
returns c =
    let a = c.args in
    let k : bit_and a.bits 7 ≡ a.bits % 8 = and_mask a.bits 3 in
    elim c.if-rest-eq0.branch [
      | then-rest-eq0 w ↦ ap (λ n. bits_of (take (a.bits / 8) a.lent.now) ++ low_bits n c.if-rest-eq0.last) k ∙ told_whole a.lent.now a.bits c.if-rest-eq0.last (sym k ∙ w.if-rest-eq0.true)
      | else-rest-eq0 w ↦ ap (λ n. bits_of (take (a.bits / 8) a.lent.now) ++ low_bits n c.if-rest-eq0.last) k ∙ told_parts a.lent.now a.bits c.if-rest-eq0.last c.requires.0 (λ z. w.if-rest-eq0.false (k ∙ z)) w.last-is
    ]
