-- Frames carry their check behind their content: of two with one framing, each is accepted where its check is right.
-- Assumes nothing.
use mathlib.Core.Path.{◌≡◌, sym, ap, ◌∙◌}
use Prim.Native.Nat.{ℕ, ◌-◌}
use native.Mathlib.Omega.{arith}
use lib.ListN.{length, length-drop, take-append-drop}
use lib.Seq.{length-take-le}
use Rattle.cyclic.specs.Check.{Parameters}
use Rattle.cyclic.specs.Laws.{OfWidth}
use Rattle.frame.specs.Frame.{width}
use Rattle.frame.specs.Read.{content_of, check_in}
use Rattle.guarantees.specs.Frames.{checked_in, checked_bits, frames}
use Rattle.guarantees.proofs.Lines.Masks.{length-checked}
use Rattle.guarantees.proofs.Lines.Cyclic.{CyclicPairs}
use Rattle.guarantees.proofs.Frames.Framing.{passed, accepted_right, one_framing}
use Rattle.guarantees.proofs.Frames.Bridge.{frame_bridge}

pub cyclic_frames : (m : Parameters) (w : ℕ) → OfWidth w m → CyclicPairs m w (frames m)
unfolding checked_bits
cyclic_frames m w wide A B p =
    let o = one_framing m A B p in
    let s = o.a.checked in
    let t = o.b.checked in
    let a = passed m s A o.a.is_found in
    let b = passed m t B o.b.is_found in
    let ea : checked_bits m A ≡ s = ap checked_in o.a.is_found in
    let eb : checked_bits m B ≡ t = ap checked_in o.b.is_found in
    let n : length s ≡ length t = sym (ap length ea) ∙ length-checked (frames m) (frame_bridge m) A B p ∙ ap length eb in
    let k : length m.generator ≡ w = wide.generator.width in
    record {
      content_a = content_of m s;
      check_a = check_in m s;
      whole_a = ea ∙ sym (take-append-drop (length s - width m) s);
      right_a = accepted_right m A o.a;
      content_b = content_of m t;
      check_b = check_in m t;
      whole_b = eb ∙ sym (take-append-drop (length t - width m) t);
      right_b = accepted_right m B o.b;
      one_length =
          length-take-le (length s - width m) s (omega arith) ∙ omega (arith, n) ∙ sym (length-take-le (length t - width m) t (omega arith));
      check_length_lem = length-drop (length t - width m) t ∙ omega (arith, b.content);
      within = omega (arith, ap length ea, a.within);
    }
