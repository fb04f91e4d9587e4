-- The answer: within the limit the joined check, else 63; of contents, and of three parts. Assumes nothing.
use mathlib.Core.Path.{◌≡◌, refl, sym, ap, ◌∙◌}
use Prim.Native.Nat.{ℕ, ◌+◌, ◌*◌, ◌≤◌, ◌<◌}
use native.Mathlib.Omega.{arith}
use mathlib.Core.Bool.{Bool, true, false}
use mathlib.Core.List.{List}
use lib.Dec.{leb}
use lib.ListN.{length}
use borrow.Author.Tests.{le-leb, leb-true, leb-false, lt-leb}
use Rattle.bits.specs.Strings.{xor_bits}
use Rattle.bits.specs.Bytes.{bits_of}
use Rattle.bits.proofs.Bytes.{length-bits_of, bits_of-append}
use Rattle.division.specs.Division.{power}
use Rattle.cyclic.specs.Check.{Parameters, check_bits}
use Rattle.polynomials.specs.Product.{product}
use Rattle.joining.specs.Joining.{joined, Answer, check, refused, join}
use Rattle.joining.specs.Laws.{JoinIsCheck, after, JoinGroups}
use Rattle.joining.proofs.Joined.{joined_by_power, joined_groups}
use Rattle.joining.proofs.Contents.{joined_check}

module _ (m : Parameters) (a : List Bool) (j : ℕ) (b : List Bool) (k : ℕ) where
  pub join_within : j + k ≤ m.limit → join m a j b k ≡ check (joined m.generator a b (8 * k))
  unfolding join
  join_within h = rw (le-leb (j + k) m.limit h)

  pub join_beyond : m.limit < j + k → join m a j b k ≡ refused 63 0
  unfolding join
  join_beyond h = rw (lt-leb (j + k) m.limit h)

pub join_is_check : JoinIsCheck
join_is_check w m o A B h =
    join_within m (check_bits m (bits_of A)) (length A) (check_bits m (bits_of B)) (length B) h
    ∙ ap check
    (ap (joined m.generator (check_bits m (bits_of A)) (check_bits m (bits_of B))) (sym (length-bits_of B))
    ∙ joined_check w m o (bits_of A) (bits_of B) ∙ ap (check_bits m) (sym (bits_of-append A B)))

pub join_groups : JoinGroups
join_groups w m o a b c ha hb hc i j k = all (leb (i + j + k) m.limit) refl
  where
    p : List Bool
    p = m.generator

    -- what follows the first two parts, and the last two
    then_third : Answer → Answer
    then_third r = after r (λ ab. join m ab (i + j) c k)

    then_first : Answer → Answer
    then_first r = after r (λ bc. join m a i bc (j + k))

    left_refused : (t : Bool) → leb (i + j) m.limit ≡ t → m.limit < i + j + k → then_third (join m a i b j) ≡ refused 63 0
    left_refused true e h =
        ap then_third (join_within m a i b j (leb-true (i + j) m.limit e)) ∙ join_beyond m (joined p a b (8 * j)) (i + j) c k h
    left_refused false e h = ap then_third (join_beyond m a i b j (leb-false (i + j) m.limit e))

    right_refused : (t : Bool) → leb (j + k) m.limit ≡ t → m.limit < i + j + k → then_first (join m b j c k) ≡ refused 63 0
    right_refused true e h =
        ap then_first (join_within m b j c k (leb-true (j + k) m.limit e)) ∙ join_beyond m a i (joined p b c (8 * k)) (j + k) (omega arith)
    right_refused false e h = ap then_first (join_beyond m b j c k (leb-false (j + k) m.limit e))

    all : (t : Bool) → leb (i + j + k) m.limit ≡ t → then_third (join m a i b j) ≡ then_first (join m b j c k)
    all true e =
        let h : i + j + k ≤ m.limit = leb-true (i + j + k) m.limit e in
        let s = o.generator.width in
        let n : 8 * j + 8 * k ≡ 8 * (j + k) = omega arith in
        ap then_third (join_within m a i b j (omega arith)) ∙ join_within m (joined p a b (8 * j)) (i + j) c k h
        ∙ ap check
        (joined_groups p a b c (ha ∙ sym s) (hb ∙ sym s) (hc ∙ sym s) (8 * j) (8 * k)
        ∙ ap (joined p a (joined p b c (8 * k))) n)
        ∙ sym (join_within m a i (joined p b c (8 * k)) (j + k) (omega arith))
        ∙ sym (ap then_first (join_within m b j c k (omega arith)))
    all false e =
        let h : m.limit < i + j + k = leb-false (i + j + k) m.limit e in
        left_refused (leb (i + j) m.limit) refl h ∙ sym (right_refused (leb (j + k) m.limit) refl h)

-- ---- as code has it, by a limit and a generator that are the method's

module _ (m : Parameters) {limit : ℕ} {p : List Bool} (g : p ≡ m.generator) (l : limit ≡ m.limit) (a : List Bool) (j : ℕ) (b : List Bool) (k : ℕ) where
  pub answer_beyond : {t : Bool} → t ≡ leb (j + k) limit → t ≡ false → refused 63 0 ≡ join m a j b k
  answer_beyond e f =
      let h : limit < j + k = leb-false (j + k) limit (sym e ∙ f) in
      sym (join_beyond m a j b k (omega arith))

  -- the product of the first and the power of x, plus the second
  pub answer_within : {t : Bool} → t ≡ leb (j + k) limit → t ≡ true → 0 < length p → length a ≡ length p → length b ≡ length p
      → {x moved sum : List Bool} → x ≡ power p (8 * k) → moved ≡ product p a x → sum ≡ xor_bits moved b → check sum ≡ join m a j b k
  answer_within e f pos u v c d i =
      let h : j + k ≤ limit = leb-true (j + k) limit (sym e ∙ f) in
      ap check
      (i ∙ ap (λ z. xor_bits z b) (d ∙ ap (product p a) c) ∙ sym (joined_by_power p a b pos u v (8 * k)) ∙ ap (λ z. joined z a b (8 * k)) g)
      ∙ sym (join_within m a j b k (omega arith))
