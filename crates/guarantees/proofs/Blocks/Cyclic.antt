-- Blocks of methods 3 and 4: of two lines with one framing, each is accepted where its check is right. Assumes nothing.
use mathlib.Core.Path.{◌≡◌, refl, sym, ap, ◌∙◌}
use mathlib.Core.Logic.{◌↔◌}
use Prim.Native.Nat.{ℕ, ◌+◌}
use native.Mathlib.Omega.{arith}
use mathlib.Core.Bool.{false, true≢false}
use mathlib.Core.List.{List, ◌++◌}
use lib.ListN.{length, length-drop}
use Rattle.bits.specs.Bytes.{bits_of}
use Rattle.bits.proofs.Bytes.{length-bits_of, bits_of-append}
use Rattle.cyclic.specs.Check.{Parameters, check_bits, method3, method4}
use Rattle.block.specs.declared.Method.{Method}
use Rattle.block.specs.declared.Method.TheVariants as method
use Rattle.block.specs.declared.Parity.{Parity}
use Rattle.block.specs.Signs.{CodeTable}
use Rattle.block.specs.Characters.{is_seven}
use Rattle.block.specs.Marks.{counted, check_bytes}
use Rattle.block.specs.Check.{check_of, check_length}
use Rattle.block.proofs.CheckLaws as check_bytes_lem
use Rattle.block.specs.Read.{Framed, found, unframed, framed, ask_check, read_block}
use Rattle.block.specs.Limits.{counted_limit}
use Rattle.guarantees.specs.Blocks.{Accepted, checked_bits, blocks}
use Rattle.guarantees.proofs.Lines.Masks.{length-checked}
use Rattle.guarantees.proofs.Lines.Cyclic.{CyclicPairs}
use Rattle.guarantees.proofs.Blocks.Framing.{Found, one_framing, accepted_right}
use Rattle.guarantees.proofs.Blocks.Bridge.{checked_bits_lem, all-passed, checked-length, block_bridge}

-- ---- one law over both methods

module _ (table : CodeTable) (m : Method) (k : Parameters) (rule : (p : Parity) (bs : List ℕ) → check_of m p bs ≡ check_bits k (bits_of bs))
    (two : check_length m ≡ 2) (limit : k.limit ≡ counted_limit) where
  module _ (p : Parity) (line : List ℕ) (r : Found table m p line) where
    whole : checked_bits table m p line ≡ bits_of (counted r.marks line) ++ bits_of (check_bytes r.marks line)
    whole = checked_bits_lem table m p line r ∙ bits_of-append (counted r.marks line) (check_bytes r.marks line)

    right : Accepted table m p line ↔ (bits_of (check_bytes r.marks line) ≡ check_bits k (bits_of (counted r.marks line)))
    right =
        let a = accepted_right table m p line r in
        let q = rule p (counted r.marks line) in
        (λ h. a.0 h ∙ q, λ e. a.1 (e ∙ sym q))

    check_length_lem : length (bits_of (check_bytes r.marks line)) ≡ 16
    check_length_lem =
        length-bits_of (check_bytes r.marks line)
        ∙ omega (arith, length-drop (length r.marks) line, (all-passed table m p line r).closes)

    content-length : length (checked_bits table m p line) ≡ length (bits_of (counted r.marks line)) + 16
    content-length = omega (arith, checked-length table m p line r, length-bits_of (counted r.marks line))

  cyclic_pairs : (p : Parity) → CyclicPairs k 16 (blocks table m p)
  cyclic_pairs p A B s =
      let o = one_framing table m p A B s in
      let ca = counted o.a.marks A in
      let cb = counted o.b.marks B in
      record {
        content_a = bits_of ca;
        check_a = bits_of (check_bytes o.a.marks A);
        whole_a = whole p A o.a;
        right_a = right p A o.a;
        content_b = bits_of cb;
        check_b = bits_of (check_bytes o.b.marks B);
        whole_b = whole p B o.b;
        right_b = right p B o.b;
        one_length = omega (arith, content-length p A o.a, content-length p B o.b, length-checked (blocks table m p) (block_bridge table m p) A B s);
        check_length_lem = check_length_lem p B o.b;
        within = omega (arith, content-length p A o.a, length-bits_of ca, (all-passed table m p A o.a).few, limit);
      }

pub cyclic_pairs_3 : (table : CodeTable) (p : Parity) → CyclicPairs method3 16 (blocks table method.Cyclic p)
unfolding check_of method3
cyclic_pairs_3 table = cyclic_pairs table method.Cyclic method3 (λ p bs. refl) (check_bytes_lem.check_length_lem method.Cyclic) refl

pub cyclic_pairs_4 : (table : CodeTable) (p : Parity) → CyclicPairs method4 16 (blocks table method.CyclicAlternative p)
unfolding check_of method4
cyclic_pairs_4 table = cyclic_pairs table method.CyclicAlternative method4 (λ p bs. refl) (check_bytes_lem.check_length_lem method.CyclicAlternative) refl

-- ---- the parity setting is without effect

one_check : (m : Method) → is_seven m ≡ false → (p q : Parity) (bs : List ℕ) → check_of m p bs ≡ check_of m q bs
unfolding check_of
one_check method.Parity e p q bs = absurd (true≢false e)
one_check method.Matrix e p q bs = absurd (true≢false e)
one_check method.Cyclic e p q bs = refl
one_check method.CyclicAlternative e p q bs = refl
one_check method.Diagonal e p q bs = absurd (true≢false e)

module _ (table : CodeTable) (m : Method) (eight : is_seven m ≡ false) (p q : Parity) (line : List ℕ) (room : ℕ) where
  one_framed : framed table m p line ≡ framed table m q line
  unfolding framed
  one_framed = rw eight refl

  one_answer : (w : Framed) → ask_check m p line room w ≡ ask_check m q line room w
  one_answer (found ks f e) = rw (one_check m eight p q (counted ks line))
  one_answer (unframed n v) = refl

  pub any_parity : read_block table m p line room ≡ read_block table m q line room
  unfolding read_block
  any_parity = ap (ask_check m p line room) one_framed ∙ one_answer (framed table m q line)
