-- The parts of a block: their bits and their lengths. Assumes nothing.
use mathlib.Core.Path.{◌≡◌, sym, ap, ◌∙◌}
use Prim.Native.Nat.{ℕ, ◌+◌, ◌-◌, ◌*◌, ◌≤◌}
use native.Mathlib.Omega.{arith}
use mathlib.Core.Bool.{Bool}
use mathlib.Core.List.{List, ◌++◌, append-nil}
use lib.ListN.{length, length-append, length-drop, take-append-drop}
use lib.Seq.{length-take-le}
use Rattle.bits.specs.Strings.{zeros}
use Rattle.bits.specs.Bytes.{bits_of, pack, bytes_for}
use Rattle.bits.proofs.Bytes.{length-bits_of, bits_of-append}
use Rattle.bits.proofs.Packing.{length-pack, bits_of-pack}
use Rattle.cyclic.specs.Check.{Parameters, check_bits}
use Rattle.cyclic.specs.Laws.{OfWidth}
use Rattle.cyclic.proofs.Checks.{length-check}
use Rattle.fixed_block.specs.Block.{check_length, block_of, content_of, check_in}

pub split_bits : (m : Parameters) (A : List ℕ) → bits_of A ≡ bits_of (content_of m A) ++ bits_of (check_in m A)
split_bits m A =
    ap bits_of (sym (take-append-drop (length A - check_length m) A)) ∙ bits_of-append (content_of m A) (check_in m A)

pub length-width : (k : ℕ) (m : Parameters) → OfWidth (8 * k) m → check_length m ≡ k
unfolding check_length
length-width k m o = omega (arith, o.generator.width)

pub length-check_in : (k : ℕ) (m : Parameters) → OfWidth (8 * k) m → (A : List ℕ) → check_length m ≤ length A → length (bits_of (check_in m A)) ≡ 8 * k
length-check_in k m o A h =
    length-bits_of (check_in m A) ∙ ap (λ n. 8 * n) (length-drop (length A - check_length m) A ∙ omega (arith, length-width k m o))

pub length-content : (m : Parameters) (A : List ℕ) → length (content_of m A) ≡ length A - check_length m
length-content m A = length-take-le (length A - check_length m) A (omega arith)

-- the check's bits fill its bytes
module _ (k : ℕ) (m : Parameters) (o : OfWidth (8 * k) m) where
  wide : (s : List Bool) → length (check_bits m s) ≡ 8 * k
  wide s = length-check m (o.start-length ∙ sym o.generator.width) s ∙ o.generator.width

  pub length-sent : (s : List Bool) → length (pack (check_bits m s)) ≡ check_length m
  length-sent s = length-pack (check_bits m s) ∙ omega (arith, wide s, length-width k m o)

  pub bits_sent : (s : List Bool) → bits_of (pack (check_bits m s)) ≡ check_bits m s
  bits_sent s =
      let c = check_bits m s in
      let z : 8 * bytes_for (length c) - length c ≡ 0 = omega (arith, wide s) in
      bits_of-pack c ∙ ap (λ n. c ++ zeros n) z ∙ append-nil c

  pub length-block : (content : List ℕ) → length (block_of m content) ≡ length content + check_length m
  unfolding block_of
  length-block content = length-append content (pack (check_bits m (bits_of content))) ∙ ap (λ n. length content + n) (length-sent (bits_of content))
