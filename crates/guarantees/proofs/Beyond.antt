-- What goes beyond the owner's sentences holds. Assumes nothing.
use mathlib.Core.Path.{◌≡◌, ap}
use Prim.Native.Nat.{ℕ, ◌+◌, ◌-◌, ◌*◌, ◌<◌}
use native.Mathlib.Omega.{arith}
use lib.ListN.{length}
use lib.Seq.{length-take-le}
use Rattle.division.specs.Laws.{order16}
use Rattle.cyclic.specs.Check.{method5}
use Rattle.cyclic.proofs.Methods.{width_5}
use Rattle.block.specs.declared.Method.{Method}
use Rattle.block.specs.declared.Method.TheVariants as method
use Rattle.block.specs.declared.Parity.{Parity}
use Rattle.block.specs.Signs.{CodeTable}
use Rattle.block.specs.Check.{check_length}
use Rattle.block.proofs.CheckLaws.{check_length_lem}
use Rattle.block.specs.Read.{Parts}
use Rattle.frame.specs.Frame.{width}
use Rattle.guarantees.specs.Blocks.{blocks}
use Rattle.guarantees.specs.Frames.{checked_in, checked_bits}
use Rattle.guarantees.specs.Third.{AnyMethod, method_3, method_4, method_5, lines_of, Has16Bits}
use Rattle.guarantees.specs.Beyond.{AtLeastBelow, BlocksAtLeast, FramesAtLeast, BeyondTheOwner}
use Rattle.guarantees.proofs.Lines.Cyclic.{at_least_four}
use Rattle.guarantees.proofs.Blocks.Bridge.{checked-length}
use Rattle.guarantees.proofs.Frames.Framing.{passed}
use Rattle.guarantees.proofs.Frames.Taken as frames
use Rattle.guarantees.proofs.Taken.Questions.{taken_passed}
use Rattle.guarantees.proofs.Third.{bridge, check_16}

distance_16 : (m : AnyMethod) → Has16Bits m → AtLeastBelow 4 32768 (lines_of m)
distance_16 m h =
    let c = check_16 m h in
    at_least_four c.parameters 16 c.wide (lines_of m) (bridge m) c.pairs (omega arith) c.terms order16 c.order

distance-blocks : (table : CodeTable) (m : Method) (p : Parity) (most : ℕ) → check_length m ≡ 2 → 8 * (most + 2) < 32768 → AtLeastBelow 4 32768 (blocks table m p)
    → BlocksAtLeast 4 most table m p
distance-blocks table m p most two fits least A B t b room e few =
    let k = taken_passed table m p A room e in
    least A B t (omega (arith, checked-length table m p A k.framing, ap (λ (b : Parts). b.counted) k.parts))

distance-frames : (most : ℕ) → most + 16 < 32768 → FramesAtLeast 4 most method5
unfolding checked_bits
distance-frames most fits A B t content room e few =
    let k = frames.taken_passed method5 A room e in
    let s = k.framing.checked in
    let all = ap (λ w. length (checked_in w)) k.framing.is_found in
    let front = length-take-le (length s - width method5) s (omega arith) in
    distance_16 method_5 tt A B t
    (omega (arith, all, front, ap length k.is_content, (passed method5 s A k.framing.is_found).content, width_5.generator.width))

pub beyond_the_owner : BeyondTheOwner
beyond_the_owner =
    record {
      distance_16 = distance_16;
      distance_3 = λ t p. distance-blocks t method.Cyclic p _ (check_length_lem method.Cyclic) (omega arith) (distance_16 (method_3 t p) tt);
      distance_4 = λ t p. distance-blocks t method.CyclicAlternative p _ (check_length_lem method.CyclicAlternative) (omega arith) (distance_16 (method_4 t p) tt);
      distance_5 = distance-frames _ (omega arith);
    }
