-- How many wrong bits a line cannot hide, by its length. Assumes nothing.
use mathlib.Core.Path.{refl}
use Prim.Native.Nat.{ℕ, suc, ◌<◌}
use native.Mathlib.Omega.{arith}
use lib.ListN.{length}
use Rattle.division.specs.Laws.{OrderAbove, NoTrinomial, AtLeastWithin}
use Rattle.division.proofs.Generators.{order_ieee32}
use Rattle.division.proofs.Distances as strings
use Rattle.trinomials.proofs.Trinomials.{no_trinomial_ieee32}
use Rattle.cyclic.specs.Check.{method6}
use Rattle.cyclic.proofs.Methods.{width_6}
use Rattle.guarantees.specs.Lines.{Lines, AtLeast}
use Rattle.guarantees.specs.Beyond.{AtLeastBelow}
use Rattle.guarantees.specs.Frames.{frames}
use Rattle.guarantees.specs.Third.{AnyMethod, method_6, lines_of, Has16Bits}
use Rattle.guarantees.proofs.Lines.Cyclic.{at_least}
use Rattle.guarantees.proofs.Frames.Bridge.{frame_bridge}
use Rattle.guarantees.proofs.Frames.Cyclic.{cyclic_frames}
use Rattle.guarantees.proofs.Third.{bridge, check_16}
use Rattle.distances.specs.Met.{MetAt}
use Rattle.distances.specs.Distances.{DistancesByLength}
use Rattle.distances.proofs.FramePairs.{two_bits, three_bits, four_bits}

order_6 : OrderAbove method6.generator 91638
unfolding method6
order_6 d pos h = order_ieee32 d pos (omega arith)

trinomials_6 : NoTrinomial method6.generator 91638
unfolding method6
trinomials_6 = no_trinomial_ieee32

-- three by the order of x, and one more since no trinomial is a multiple
strings_6 : AtLeastWithin 4 91639 method6.generator
strings_6 =
    let g = width_6.generator in
    strings.at_least_one_more method6.generator 3 91639
    (strings.at_least_three method6.generator 91639 g.constant (omega (arith, g.width)) order_6)
    (strings.no_multiple_of_three method6.generator 91639 g.constant trinomials_6)

distance_32 : AtLeastBelow 4 91640 (lines_of method_6)
distance_32 = at_least method6 32 width_6 (frames method6) (frame_bridge method6) (cyclic_frames method6 32 width_6) 4 91639 strings_6

-- never one, and never an odd number
any_length_16 : (m : AnyMethod) → Has16Bits m → AtLeast 2 (lines_of m)
any_length_16 m h A B t =
    let c = check_16 m h in
    let p = c.parameters.generator in
    let n = length ((lines_of m).checked_bits A) in
    at_least c.parameters 16 c.wide (lines_of m) (bridge m) c.pairs 2 n
    (strings.at_least_one_more p 1 n (strings.at_least_one p n) (strings.no_odd_multiple p 1 n c.terms refl)) A B t (omega arith)

-- ---- two accepted lines that differ in n bits are against every sentence that asks for more of lines of their length

against : {n k : ℕ} {L : Lines} → MetAt n k L → (j size : ℕ) → n < j → k < size → AtLeastBelow j size L → ⊥
against met j size more longer least =
    omega (arith, least met.in_just.A met.in_just.B met.in_just.two_accepted (omega (arith, met.checked_length)), met.in_just.bits)

against_any : {n k : ℕ} {L : Lines} → MetAt n k L → (j : ℕ) → n < j → AtLeast j L → ⊥
against_any {k = k} met j more least = against met j (suc k) more (omega arith) (λ A B t few. least A B t)

pub distances_by_length : DistancesByLength
distances_by_length =
    record {
      distance_32 = distance_32;
      four_32 = four_bits;
      three_32 = three_bits;
      any_length_16 = any_length_16;
      two_16 = two_bits;
      no_longer_32 = against three_bits 4 91641 (omega arith) (omega arith);
      no_more_32 = against four_bits 5 91640 (omega arith) (omega arith);
      no_longer_16 = against two_bits 4 32769 (omega arith) (omega arith);
      no_more_16 = against_any two_bits 3 (omega arith);
    }
