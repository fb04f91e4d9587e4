-- What a cyclic check detects on lines: the laws of division, carried over by the checked bits. Assumes nothing.
use mathlib.Core.Path.{◌≡◌, sym, ap, ◌∙◌}
use mathlib.Core.Logic.{◌↔◌}
use Prim.Native.Nat.{ℕ, suc, ◌+◌, ◌-◌, ◌*◌, ◌%◌, ◌≤◌, ◌<◌}
use native.Mathlib.Omega.{arith}
use mathlib.Core.Bool.{Bool}
use mathlib.Core.List.{List, ◌++◌}
use lib.ListN.{length}
use Rattle.bits.proofs.Differences.{length-differing, two-differing}
use Rattle.bits.proofs.Strings.{length-xor}
use Rattle.division.specs.Division.{remainder}
use Rattle.division.specs.Laws.{Undetected, EvenTerms, OrderIs, OrderAbove, AtLeastWithin}
use Rattle.division.proofs.Detection.{burst, even, two-bits}
use Rattle.division.proofs.Distances as distances
use Rattle.cyclic.specs.Check.{Parameters, check_bits}
use Rattle.cyclic.specs.Laws.{OfWidth}
use Rattle.cyclic.proofs.Checks.{one_remainder}
use Rattle.guarantees.specs.Lines.{Lines, SameFraming, TwoAccepted, AtLeast, NoBurst, NeverOdd, AcceptedWhereApart}
use Rattle.guarantees.specs.Beyond.{AtLeastBelow}
use Rattle.guarantees.proofs.Lines.Masks.{Bridge, differ_where_checked, equal_where_checked, length-checked}

-- two lines of one length and framing, each of which is accepted where its check is right
pub record CyclicPair (m : Parameters) (w : ℕ) (L : Lines) (A B : L.Line) : Type 0 where
  pub content_a : List Bool
  pub check_a : List Bool
  pub whole_a : L.checked_bits A ≡ content_a ++ check_a
  pub right_a : L.Accepted A ↔ (check_a ≡ check_bits m content_a)
  pub content_b : List Bool
  pub check_b : List Bool
  pub whole_b : L.checked_bits B ≡ content_b ++ check_b
  pub right_b : L.Accepted B ↔ (check_b ≡ check_bits m content_b)
  pub one_length : length content_a ≡ length content_b
  pub check_length_lem : length check_b ≡ w
  pub within : length (L.checked_bits A) ≤ 8 * m.limit + w

abbrev pub CyclicPairs : Parameters → ℕ → Lines → Type 0
CyclicPairs m w L = (A B : L.Line) → SameFraming L A B → CyclicPair m w L A B

module _ (m : Parameters) (w : ℕ) (wide : OfWidth w m) (L : Lines) (bridge : Bridge L) (pairs : CyclicPairs m w L) where
  module _ (A B : L.Line) (acc : L.Accepted A) (s : SameFraming L A B) where
    pub accepted_remainder : L.Accepted B ↔ (remainder m.generator (L.checked_bits A) ≡ remainder m.generator (L.checked_bits B))
    accepted_remainder =
        let c = pairs A B s in
        let p = m.generator in
        let right = c.right_a.0 acc in
        let r = one_remainder w m wide c.content_a c.content_b c.check_a c.check_b c.one_length right c.check_length_lem in (
          λ b. ap (remainder p) c.whole_a ∙ r.0 (c.right_b.0 b) ∙ sym (ap (remainder p) c.whole_b),
          λ e. c.right_b.1 (r.1 (sym (ap (remainder p) c.whole_a) ∙ e ∙ ap (remainder p) c.whole_b)),
        )

  undetected : (A B : L.Line) → TwoAccepted L A B → Undetected m.generator (L.checked_bits A) (L.checked_bits B)
  undetected A B t =
      record {
        one_length = length-checked L bridge A B t.same_framing;
        one_remainder = (accepted_remainder A B t.accepted.0 t.same_framing).0 t.accepted.1;
      }

  pub no_burst : NoBurst w L
  no_burst A B t b h u =
      t.unequal
      (equal_where_checked L bridge A B t.same_framing
      (burst m.generator (L.checked_bits A) (L.checked_bits B) wide.generator.constant (undetected A B t) b
      (omega (arith, wide.generator.width)) u))

  pub never_odd : EvenTerms m.generator → NeverOdd L
  never_odd terms A B t o =
      let e = even m.generator (L.checked_bits A) (L.checked_bits B) terms (undetected A B t) in
      let n = (differ_where_checked L bridge A B t.same_framing).1 in
      let l = length-differing (L.checked_bits A) (L.checked_bits B) in
      omega (arith, ap (λ x. x % 2) (n ∙ l))

  pub accepted_where_apart : (n : ℕ) → 0 < n → OrderIs m.generator n (8 * m.limit + w - 1) → AcceptedWhereApart n L
  accepted_where_apart n pos order A B acc s i j e =
      let a = L.checked_bits A in
      let b = L.checked_bits B in
      let one = length-checked L bridge A B s in
      let t = two-differing a b i j e in
      let d : j - i ≤ 8 * m.limit + w - 1 = omega (arith, t.apart, t.inside, length-xor a b one, one, (pairs A B s).within) in
      let o = order (j - i) (omega (arith, t.apart)) d in
      let r = two-bits m.generator a b wide.generator.constant one i j e in
      let c = accepted_remainder A B acc s in (
        λ h. let q = o.0 (r.0 (c.0 h)) in omega (arith, t.apart),
        λ q. c.1 (r.1 (o.1 (omega (arith, t.apart)))),
      )

  -- the least distance of strings is that of lines
  pub at_least : (k n : ℕ) → AtLeastWithin k n m.generator → AtLeastBelow k (suc n) L
  at_least k n least A B t few =
      let a = L.checked_bits A in
      let b = L.checked_bits B in
      omega (
        arith,
        (differ_where_checked L bridge A B t.same_framing).1,
        length-differing a b,
        least a b (undetected A B t) (omega arith) (λ e. t.unequal (equal_where_checked L bridge A B t.same_framing e)),
      )

  pub at_least_three : 0 < w → OrderAbove m.generator (8 * m.limit + w - 1) → AtLeast 3 L
  at_least_three pos far A B t =
      let n = 8 * m.limit + w in
      at_least 3 n (distances.at_least_three m.generator n wide.generator.constant (omega (arith, wide.generator.width)) far) A B t
      (omega (arith, (pairs A B t.same_framing).within))

  -- never odd, and two bits n apart do not fit into n checked bits
  pub at_least_four : 0 < w → EvenTerms m.generator → (n : ℕ) → OrderIs m.generator n (8 * m.limit + w - 1) → AtLeastBelow 4 (suc n) L
  at_least_four pos terms n order A B t few =
      let k = length (L.checked_bits A) in
      let far : OrderAbove m.generator (k - 1) = λ d p q e. absurd (omega (arith, (order d p (omega (arith, (pairs A B t.same_framing).within))).0 e)) in
      at_least 4 k (distances.at_least_four m.generator k wide.generator.constant (omega (arith, wide.generator.width)) terms far) A B t (omega arith)
