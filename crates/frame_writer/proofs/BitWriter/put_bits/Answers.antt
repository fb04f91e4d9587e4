-- `put_bits` meets its contract: no byte stored, or one or two that the bits fill. Assumes nothing.
use mathlib.Core.Path.{refl, sym, subst}
use Prim.Native.Nat.{ℕ, ◌<◌, ◌≤◌, ◌^◌}
use native.Mathlib.Omega.{arith}
use lib.ListN.{length-set}
use lib.Pow.{shr-shr}
use Rattle.frame_writer.proofs.Writers.{sent-length, bits_are, behind_next, held_same, held_once, held_twice, put_same, put_once, put_twice}
use Rattle.frame_writer.proofs.BitWriter.put_bits.Goals as goal

pub overflow_add-bits : goal.overflow_add-bits
overflow_add-bits c = omega (arith, (c.stuff_bits-sent.ensures c.args.self.count.before_small c.requires.0).few, c.requires.0)

pub after_bits-count-requires : goal.after_bits-count-requires
after_bits-count-requires c =
    let a = c.args in
    let k = c.stuff_bits-sent.ensures a.self.count.before_small c.requires.0 in
    (omega (arith, k.few, c.requires.0), k.before_small, omega (arith, c.requires.1, sent-length a.bits a.byte k))

pub invariant_of-result : goal.invariant_of-result
invariant_of-result c =
    let a = c.args in
    record { held_small = held_same a.out.now a.self a.bits a.byte (omega (arith, c.requires.0)) (c.stuff_bits-sent.ensures a.self.count.before_small c.requires.0) c.after_bits-count.ensures c.if-count-at.true }

pub returns-then-count-at : goal.returns-then-count-at
returns-then-count-at c =
    let a = c.args in
    put_same a.out.now a.self a.bits a.byte (omega (arith, c.requires.0)) (c.stuff_bits-sent.ensures a.self.count.before_small c.requires.0) c.after_bits-count.ensures c.if-count-at.true refl

pub bounds-out-at : goal.bounds-out-at
bounds-out-at c =
    let a = c.args in
    let k = c.stuff_bits-sent.ensures a.self.count.before_small c.requires.0 in
    let n = c.after_bits-count.result in
    omega (arith, c.requires.1, sent-length a.bits a.byte k, bits_are a.out.now a.self a.bits a.byte (omega (arith, c.requires.0)) k c.after_bits-count.ensures, c.if-count-at.false, n.at.place_small, a.self.count.at.place_small)

pub invariant_of-result-then-count-next : goal.invariant_of-result-then-count-next
invariant_of-result-then-count-next c =
    let a = c.args in
    record { held_small = held_once a.out.now a.self a.bits a.byte (omega (arith, c.requires.0)) (c.stuff_bits-sent.ensures a.self.count.before_small c.requires.0) c.after_bits-count.ensures c.if-count-next.true }

pub returns-then-count-next : goal.returns-then-count-next
returns-then-count-next c =
    let a = c.args in
    put_once a.out.now a.self a.bits a.byte (omega (arith, c.requires.0)) (c.stuff_bits-sent.ensures a.self.count.before_small c.requires.0) c.after_bits-count.ensures refl c.if-count-next.true refl

pub bounds-out-next : goal.bounds-out-next
bounds-out-next c =
    let a = c.args in
    let k = c.stuff_bits-sent.ensures a.self.count.before_small c.requires.0 in
    let f = c.after_bits-count.ensures in
    let few : a.bits ≤ 8 = omega (arith, c.requires.0) in
    simp length-set (omega (arith, c.requires.1, sent-length a.bits a.byte k, bits_are a.out.now a.self a.bits a.byte few k f, behind_next a.out.now a.self a.bits a.byte few k f c.if-count-at.false c.if-count-next.false))

pub invariant_of-result-2 : goal.invariant_of-result-2
invariant_of-result-2 c =
    let a = c.args in
    let k = c.stuff_bits-sent.ensures a.self.count.before_small c.requires.0 in
    let f = c.after_bits-count.ensures in
    let few : a.bits ≤ 8 = omega (arith, c.requires.0) in
    record {
      held_small =
          subst (λ (h : ℕ). h < 2 ^ c.after_bits-count.result.at.place) (sym (shr-shr _ 8 8))
          (held_twice a.out.now a.self a.bits a.byte few k f (behind_next a.out.now a.self a.bits a.byte few k f c.if-count-at.false c.if-count-next.false));
    }

pub returns : goal.returns
returns c =
    let a = c.args in
    let k = c.stuff_bits-sent.ensures a.self.count.before_small c.requires.0 in
    let f = c.after_bits-count.ensures in
    let few : a.bits ≤ 8 = omega (arith, c.requires.0) in
    put_twice a.out.now a.self a.bits a.byte few k f refl (behind_next a.out.now a.self a.bits a.byte few k f c.if-count-at.false c.if-count-next.false) refl (shr-shr _ 8 8)
