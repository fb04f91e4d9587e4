-- How accepted blocks of one length differ. Assumes nothing.
use mathlib.Core.Path.{◌≡◌, sym, ap, ◌∙◌}
use mathlib.Core.Logic.{◌↔◌}
use Prim.Native.Nat.{ℕ, ◌-◌, ◌*◌, ◌<◌, ◌≤◌}
use native.Mathlib.Omega.{arith}
use mathlib.Core.List.{List, [], ◌∷◌}
use lib.ListN.{length}
use Rattle.bits.specs.Strings.{xor_bits}
use Rattle.bits.specs.Bytes.{bits_of}
use Rattle.bits.specs.Differences.{differing_bits}
use Rattle.bits.proofs.Strings.{length-xor}
use Rattle.bits.proofs.Bytes.{length-bits_of, bits_of_injective}
use Rattle.bits.proofs.Differences.{two-differing}
use Rattle.division.specs.Division.{remainder}
use Rattle.division.specs.Laws.{Undetected}
use Rattle.division.proofs.Detection.{burst, even, two-bits}
use Rattle.cyclic.specs.Check.{Parameters}
use Rattle.cyclic.specs.Laws.{OfWidth}
use Rattle.cyclic.proofs.Checks.{one_remainder}
use Rattle.fixed_polynomials.specs.Polynomials.{degree8, degree16, degree24}
use Rattle.fixed_polynomials.proofs.Polynomials.{widths, orders}
use Rattle.fixed_block.specs.Block.{check_length, content_of, check_in}
use Rattle.fixed_block.proofs.Parts.{split_bits, length-check_in, length-content}
use Rattle.fixed_block.specs.Laws.{Accepted, NeverOdd, NoBurst, TwoBits, TwoBits8, NeverTwo, NoTwoBits}

one_length : (A B : List ℕ) → length A ≡ length B → length (bits_of A) ≡ length (bits_of B)
one_length A B h = length-bits_of A ∙ ap (λ n. 8 * n) h ∙ sym (length-bits_of B)

-- a block of the length of an accepted one is accepted exactly where both leave one remainder
module _ (k : ℕ) (m : Parameters) (o : OfWidth (8 * k) m) (A B : List ℕ) (n : length A ≡ length B) (a : Accepted m A) where
  accepted_remainder : Accepted m B ↔ (remainder m.generator (bits_of A) ≡ remainder m.generator (bits_of B))
  accepted_remainder =
      let p = m.generator in
      let l : length (content_of m A) ≡ length (content_of m B) = length-content m A ∙ ap (λ x. x - check_length m) n ∙ sym (length-content m B) in
      let q = one_remainder (8 * k) m o (bits_of (content_of m A)) (bits_of (content_of m B)) (bits_of (check_in m A)) (bits_of (check_in m B))
      (one_length (content_of m A) (content_of m B) l) a.check (length-check_in k m o B (omega (arith, a.content))) in (
        λ b. ap (remainder p) (split_bits m A) ∙ q.0 b.check ∙ sym (ap (remainder p) (split_bits m B)),
        λ e. record {
          content = omega (arith, a.content);
          within = omega (arith, a.within);
          check = q.1 (sym (ap (remainder p) (split_bits m A)) ∙ e ∙ ap (remainder p) (split_bits m B));
        },
      )

  pub undetected : Accepted m B → Undetected m.generator (bits_of A) (bits_of B)
  undetected b = record { one_length = one_length A B n; one_remainder = accepted_remainder.0 b }

pub never_odd : NeverOdd
never_odd k m o e A B n a b = even m.generator (bits_of A) (bits_of B) e (undetected k m o A B n a b)

pub no_burst : NoBurst
no_burst k m o A B p q n a b w h u =
    bits_of_injective A B p q n
    (burst m.generator (bits_of A) (bits_of B) o.generator.constant (undetected k m o A B n a b) w (omega (arith, o.generator.width)) u)

pub two_bits : TwoBits
two_bits k m o A B n a i j e =
    let r = accepted_remainder k m o A B n a in
    let q = two-bits m.generator (bits_of A) (bits_of B) o.generator.constant (one_length A B n) i j e in
    (λ b. q.0 (r.0 b), λ f. r.1 (q.1 f))

-- two changed bits stand in the block
two_within : (A B : List ℕ) (i j bits : ℕ) → length A ≡ length B → 8 * length A ≤ bits → differing_bits A B ≡ i ∷ j ∷ [] → (0 < j - i) × (j - i < bits)
two_within A B i j bits n h e =
    let t = two-differing (bits_of A) (bits_of B) i j e in
    let l : length (xor_bits (bits_of A) (bits_of B)) ≤ bits =
    omega (arith, length-xor (bits_of A) (bits_of B) (one_length A B n), one_length A B n, length-bits_of A) in
    (omega (arith, t.apart), omega (arith, t.apart, t.inside))

pub two_bits_8 : TwoBits8
unfolding degree8
two_bits_8 A B n a i j e =
    let w = two_within A B i j 128 n (omega (arith, a.within)) e in
    let q = two_bits 1 degree8 widths.degree_8 A B n a i j e in
    let d = orders.degree_8 (j - i) w.0 (omega (arith, w.1)) in
    (λ b. d.0 (q.0 b), λ f. q.1 (d.1 f))

never_two_16 : NeverTwo degree16
unfolding degree16
never_two_16 A B n a b i j e =
    let w = two_within A B i j 128 n (omega (arith, a.within)) e in
    let d = orders.degree_16 (j - i) w.0 (omega (arith, w.1)) in
    absurd (omega (arith, w.1, d.0 ((two_bits 2 degree16 widths.degree_16 A B n a i j e).0 b)))

never_two_24 : NeverTwo degree24
unfolding degree24
never_two_24 A B n a b i j e =
    let w = two_within A B i j 2048 n (omega (arith, a.within)) e in
    let d = orders.degree_24 (j - i) w.0 (omega (arith, w.1)) in
    absurd (omega (arith, w.1, d.0 ((two_bits 3 degree24 widths.degree_24 A B n a i j e).0 b)))

pub no_two_bits : NoTwoBits
no_two_bits = record { degree_16 = never_two_16; degree_24 = never_two_24 }
