-- `put_last` meets its contract: no bits are put by leaving all as it is. Assumes nothing.
use mathlib.Core.Path.{refl, sym, subst}
use mathlib.Core.List.{[]}
use Prim.Native.Nat.{ℕ}
use Rattle.bits.specs.Bytes.{low_bits}
use Rattle.frame_writer.specs.Steps.{Puts}
use Rattle.frame_writer.proofs.Writers.{put_begin, put_whole}
use Rattle.frame_writer.proofs.BitWriter.put_last.Goals as goal

pub returns-then-bits-eq0 : goal.returns-then-bits-eq0
unfolding low_bits
returns-then-bits-eq0 c =
    let a = c.args in
    subst (λ (n : ℕ). Puts a.out.now a.self (low_bits n a.byte) a.out.now a.self) (sym c.if-bits-eq0.true) (put_whole (put_begin a.out.now a.self []) refl)
