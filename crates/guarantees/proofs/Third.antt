-- The owner's third property holds. Assumes nothing.
use Prim.Native.Nat.{◌+◌, ◌-◌, ◌*◌}
use native.Mathlib.Omega.{arith}
use mathlib.Core.Path.{refl}
use Rattle.block.specs.Signs.{CodeTable}
use Rattle.division.specs.Laws.{EvenTerms, OrderIs, OrderAbove, order16}
use Rattle.division.proofs.Generators.{ccitt16_even, ibm16_even, order_ccitt16, order_ibm16, order_ieee32}
use Rattle.cyclic.specs.Check.{Parameters, method3, method4, method5, method6}
use Rattle.cyclic.specs.Laws.{OfWidth}
use Rattle.cyclic.proofs.Methods.{width_3, width_4, width_5, width_6}
use Rattle.block.specs.declared.Method.{Method}
use Rattle.block.specs.declared.Method.TheVariants as method
use Rattle.block.specs.declared.Parity.{Parity}
use Rattle.guarantees.specs.Lines.{Lines, AcceptedHasFraming}
use Rattle.guarantees.specs.Blocks.{blocks}
use Rattle.guarantees.specs.Frames.{frames}
use Rattle.guarantees.specs.Third.{AnyMethod, method_1, method_2, method_3, method_4, method_5, method_6, method_7, lines_of, Has16Bits, ThirdProperty}
use Rattle.guarantees.proofs.Lines.Masks.{Bridge, differ_where_checked, equal_where_checked}
use Rattle.guarantees.proofs.Lines.Cyclic.{CyclicPairs, no_burst, never_odd, accepted_where_apart, at_least_three}
use Rattle.guarantees.proofs.Frames.Numbers as frame-numbers
use Rattle.guarantees.proofs.Frames.Framing as frame-framing
use Rattle.guarantees.proofs.Frames.Bridge.{frame_bridge}
use Rattle.guarantees.proofs.Frames.Cyclic.{cyclic_frames}
use Rattle.guarantees.proofs.Blocks.Numbers as block-numbers
use Rattle.guarantees.proofs.Blocks.Framing as block-framing
use Rattle.guarantees.proofs.Blocks.Bridge.{block_bridge}
use Rattle.guarantees.proofs.Blocks.Cyclic.{cyclic_pairs_3, cyclic_pairs_4, any_parity}
use Rattle.guarantees.proofs.Blocks.Parities.{distance-parity, distance_matrix, burst_matrix}
use Rattle.guarantees.proofs.Blocks.Diagonals.{counted_diagonal, distance_diagonal, four_diagonal, six_diagonal}

pub bridge : (m : AnyMethod) → Bridge (lines_of m)
bridge (method_1 table p) = block_bridge table method.Parity p
bridge (method_2 table p) = block_bridge table method.Matrix p
bridge (method_3 table p) = block_bridge table method.Cyclic p
bridge (method_4 table p) = block_bridge table method.CyclicAlternative p
bridge method_5 = frame_bridge method5
bridge method_6 = frame_bridge method6
bridge (method_7 table p) = block_bridge table method.Diagonal p

pub block_has_framing : (table : CodeTable) (m : Method) (p : Parity) → AcceptedHasFraming (blocks table m p)
block_has_framing table m p A acc = block-framing.has_framing table m p A (block-framing.accepted_found table m p A acc)

pub frame_has_framing : (m : Parameters) → AcceptedHasFraming (frames m)
frame_has_framing m A acc = frame-framing.has_framing m A (frame-framing.accepted_found m A acc)

accepted_has_framing : (m : AnyMethod) → AcceptedHasFraming (lines_of m)
accepted_has_framing (method_1 table p) = block_has_framing table method.Parity p
accepted_has_framing (method_2 table p) = block_has_framing table method.Matrix p
accepted_has_framing (method_3 table p) = block_has_framing table method.Cyclic p
accepted_has_framing (method_4 table p) = block_has_framing table method.CyclicAlternative p
accepted_has_framing method_5 = frame_has_framing method5
accepted_has_framing method_6 = frame_has_framing method6
accepted_has_framing (method_7 table p) = block_has_framing table method.Diagonal p

-- what the lines of a 16-bit check rest on
pub record Check16 (L : Lines) : Type 0 where
  pub parameters : Parameters
  pub wide : OfWidth 16 parameters
  pub pairs : CyclicPairs parameters 16 L
  pub terms : EvenTerms parameters.generator
  pub order : OrderIs parameters.generator order16 (8 * parameters.limit + 16 - 1)

terms_3 : EvenTerms method3.generator
unfolding method3
terms_3 = ccitt16_even

terms_4 : EvenTerms method4.generator
unfolding method4
terms_4 = ibm16_even

terms_5 : EvenTerms method5.generator
unfolding method5
terms_5 = ccitt16_even

order_3 : OrderIs method3.generator order16 (8 * method3.limit + 16 - 1)
unfolding method3
order_3 = order_ccitt16

order_4 : OrderIs method4.generator order16 (8 * method4.limit + 16 - 1)
unfolding method4
order_4 = order_ibm16

order_5 : OrderIs method5.generator order16 (8 * method5.limit + 16 - 1)
unfolding method5
order_5 = order_ccitt16

order_6 : OrderAbove method6.generator (8 * method6.limit + 32 - 1)
unfolding method6
order_6 = order_ieee32

pub check_16 : (m : AnyMethod) → Has16Bits m → Check16 (lines_of m)
check_16 (method_1 table p) h = absurd h
check_16 (method_2 table p) h = absurd h
check_16 (method_3 table p) h = record { parameters = method3; wide = width_3; pairs = cyclic_pairs_3 table p; terms = terms_3; order = order_3 }
check_16 (method_4 table p) h = record { parameters = method4; wide = width_4; pairs = cyclic_pairs_4 table p; terms = terms_4; order = order_4 }
check_16 method_5 h = record { parameters = method5; wide = width_5; pairs = cyclic_frames method5 16 width_5; terms = terms_5; order = order_5 }
check_16 method_6 h = absurd h
check_16 (method_7 table p) h = absurd h

pub third_property : ThirdProperty
third_property =
    record {
      accepted_blocks = block-numbers.accepts_by_number;
      accepted_frames = frame-numbers.accepts_by_number;
      accepted_lent = frame-numbers.lent_by_number;
      accepted_has_framing = accepted_has_framing;
      differ_where_checked = λ m. differ_where_checked (lines_of m) (bridge m);
      equal_where_checked = λ m. equal_where_checked (lines_of m) (bridge m);
      distance-parity = distance-parity;
      distance_matrix = distance_matrix;
      distance_32 =
          at_least_three method6 32 width_6 (frames method6) (frame_bridge method6) (cyclic_frames method6 32 width_6) (omega arith) order_6;
      burst_matrix = burst_matrix;
      burst_16 = λ m h. let c = check_16 m h in no_burst c.parameters 16 c.wide (lines_of m) (bridge m) c.pairs;
      burst_32 = no_burst method6 32 width_6 (frames method6) (frame_bridge method6) (cyclic_frames method6 32 width_6);
      never_odd = λ m h. let c = check_16 m h in never_odd c.parameters 16 c.wide (lines_of m) (bridge m) c.pairs c.terms;
      accepted_where_apart =
          λ m h. let c = check_16 m h in accepted_where_apart c.parameters 16 c.wide (lines_of m) (bridge m) c.pairs order16 (omega arith) c.order;
      distance_diagonal = distance_diagonal;
      four_diagonal = four_diagonal;
      six_diagonal = six_diagonal;
      counted_diagonal = counted_diagonal;
      any_parity_3 = λ t. any_parity t method.Cyclic refl;
      any_parity_4 = λ t. any_parity t method.CyclicAlternative refl;
    }
