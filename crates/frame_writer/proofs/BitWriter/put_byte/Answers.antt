-- `put_byte` meets its contract: a byte stored, and a second one where the zeros fill it. Assumes nothing.
use mathlib.Core.Path.{refl}
use native.Mathlib.Omega.{arith}
use lib.ListN.{length-set}
use Rattle.frame_writer.proofs.Writers.{sent-length, bits_are, moves_on, behind_next, held_once, held_twice, put_once, put_twice}
use Rattle.frame_writer.proofs.BitWriter.put_byte.Goals as goal

pub after_sent-count-requires : goal.after_sent-count-requires
after_sent-count-requires c =
    let k = c.stuff_byte-sent.ensures c.args.self.count.before_small in
    (omega (arith, k.few), k.before_small, omega (arith, c.requires, sent-length 8 c.args.byte k))

pub bounds-out-at : goal.bounds-out-at
bounds-out-at c = omega (arith, c.requires, sent-length 8 c.args.byte (c.stuff_byte-sent.ensures c.args.self.count.before_small))

pub invariant_of-result : goal.invariant_of-result
invariant_of-result c =
    let a = c.args in
    record { held_small = held_once a.out.now a.self 8 a.byte (omega arith) (c.stuff_byte-sent.ensures a.self.count.before_small) c.after_sent-count.ensures c.if-count-next.true }

pub returns-then-count-next : goal.returns-then-count-next
returns-then-count-next c =
    let a = c.args in
    put_once a.out.now a.self 8 a.byte (omega arith) (c.stuff_byte-sent.ensures a.self.count.before_small) c.after_sent-count.ensures refl c.if-count-next.true refl

pub bounds-out-next : goal.bounds-out-next
bounds-out-next c =
    let a = c.args in
    let k = c.stuff_byte-sent.ensures a.self.count.before_small in
    let f = c.after_sent-count.ensures in
    let n = moves_on a.out.now a.self 8 a.byte (omega arith) k f refl in
    simp length-set (omega (arith, c.requires, sent-length 8 a.byte k, bits_are a.out.now a.self 8 a.byte (omega arith) k f, behind_next a.out.now a.self 8 a.byte (omega arith) k f n c.if-count-next.false))

pub invariant_of-result-2 : goal.invariant_of-result-2
invariant_of-result-2 c =
    let a = c.args in
    let k = c.stuff_byte-sent.ensures a.self.count.before_small in
    let f = c.after_sent-count.ensures in
    let n = moves_on a.out.now a.self 8 a.byte (omega arith) k f refl in
    record { held_small = held_twice a.out.now a.self 8 a.byte (omega arith) k f (behind_next a.out.now a.self 8 a.byte (omega arith) k f n c.if-count-next.false) }

pub returns : goal.returns
returns c =
    let a = c.args in
    let k = c.stuff_byte-sent.ensures a.self.count.before_small in
    let f = c.after_sent-count.ensures in
    let n = moves_on a.out.now a.self 8 a.byte (omega arith) k f refl in
    put_twice a.out.now a.self 8 a.byte (omega arith) k f refl (behind_next a.out.now a.self 8 a.byte (omega arith) k f n c.if-count-next.false) refl refl
