-- What a receiver finds: content and check leave a fixed remainder exactly where the check is the rule's. Assumes nothing.
use mathlib.Core.Path.{◌≡◌, refl, sym, ap, ap₂, ◌∙◌}
use mathlib.Core.Logic.{◌↔◌}
use Prim.Native.Nat.{ℕ, ◌+◌}
use native.Mathlib.Omega.{arith}
use mathlib.Core.Bool.{Bool, true, false}
use mathlib.Core.List.{List, ◌++◌, append_assoc}
use lib.ListN.{length, length-append, length-replicate}
use Rattle.bits.specs.Strings.{xor_bits, zeros, ones}
use Rattle.bits.proofs.Strings.{length-zeros, zeros-append, length-xor, xor_bits_comm, xor_bits_assoc, xor_bits-zeros, xor_bits_cancel, xor_bits_injective, xor_bits-append, invert-xor}
use Rattle.division.specs.Division.{divide, remainder}
use Rattle.division.proofs.Linear.{length-remainder, remainder-append, remainder-xor}
use Rattle.division.proofs.Zeros.{divide-zeros, divide_injective, leading, remainder-full}
use Rattle.division.proofs.Detection.{difference}
use Rattle.cyclic.specs.Check.{Parameters, formula, invert_if, check_bits, checked_bits}
use Rattle.cyclic.specs.Laws.{residue_if, ReceiverLaw, OneRemainder, CheckedDifference}

-- what inversion adds
abbrev inversion : Bool → ℕ → List Bool
inversion true w = ones w
inversion false w = zeros w

length-inversion : (i : Bool) (w : ℕ) → length (inversion i w) ≡ w
length-inversion true w = length-replicate w true
length-inversion false w = length-zeros w

invert_if-xor : (i : Bool) (w : ℕ) (r : List Bool) → length r ≡ w → invert_if i r ≡ xor_bits r (inversion i w)
invert_if-xor true w r h = invert-xor r ∙ ap (λ n. xor_bits (ones n) r) h ∙ xor_bits_comm (ones w) r
invert_if-xor false w r h = sym (xor_bits_comm r (zeros w) ∙ xor_bits-zeros w r h)

module _ (m : Parameters) (start-length : length m.start ≡ length m.generator) where
  abbrev p : List Bool
  p = m.generator

  abbrev w : ℕ
  w = length m.generator

  -- L moved up behind a content of k bits
  abbrev moved : ℕ → List Bool
  moved k = m.start ++ zeros k

  length-formula : (c : List Bool) → length (formula m c) ≡ w
  unfolding formula
  length-formula c = length-remainder p _

  pub length-check : (c : List Bool) → length (check_bits m c) ≡ w
  unfolding check_bits
  length-check c =
      ap length (invert_if-xor m.inverted w (formula m c) (length-formula c))
      ∙ length-xor (formula m c) (inversion m.inverted w) (length-formula c ∙ sym (length-inversion m.inverted w))
      ∙ length-inversion m.inverted w

  -- a string is the rule's check where the content's formula and string sum to what inversion adds
  check_iff : (c s : List Bool) → length s ≡ w → (s ≡ check_bits m c) ↔ (xor_bits (formula m c) s ≡ inversion m.inverted w)
  unfolding check_bits
  check_iff c s h =
      let r = formula m c in
      let v = inversion m.inverted w in
      let lr = length-formula c in
      let e : check_bits m c ≡ xor_bits r v = invert_if-xor m.inverted w r lr in (
        λ q. ap (xor_bits r) (q ∙ e) ∙ xor_bits_cancel r v (length-inversion m.inverted w ∙ sym lr),
        λ q. xor_bits_injective r s (check_bits m c) (h ∙ sym lr) (length-check c ∙ sym lr)
            (q ∙ sym (ap (xor_bits r) e ∙ xor_bits_cancel r v (length-inversion m.inverted w ∙ sym lr))),
      )

  -- a string of w bits behind the content is added to its formula
  formula_then : (c s : List Bool) → length s ≡ w → remainder p (xor_bits (c ++ s) (moved (length c))) ≡ xor_bits (formula m c) s
  unfolding formula
  formula_then c s h =
      let k = length c in
      let a = c ++ zeros w in
      let b = zeros k ++ s in
      let l = moved k in
      let e : c ++ s ≡ xor_bits a b =
      sym (xor_bits-append c (zeros k) (zeros w) s (sym (length-zeros k)) ∙ ap₂ ◌++◌ (xor_bits_comm c (zeros k) ∙ xor_bits-zeros k c refl) (xor_bits-zeros w s h)) in
      let la : length a ≡ k + w = simp (length-append, length-replicate) refl in
      let lb : length b ≡ k + w = simp (length-append, length-replicate, h) refl in
      let ll : length l ≡ k + w = simp (length-append, length-replicate) (omega arith) in
      ap (λ z. remainder p (xor_bits z l)) e
      ∙ ap (remainder p) (xor_bits_assoc a b l ∙ ap (xor_bits a) (xor_bits_comm b l) ∙ sym (xor_bits_assoc a l b))
      ∙ remainder-xor p (xor_bits a l) b (length-xor a l (la ∙ sym ll) ∙ ll ∙ sym lb)
      ∙ ap (xor_bits (remainder p (xor_bits a l))) (leading p k s ∙ remainder-full p s h)

  -- the formula of content and string together moves that sum up by w zeros
  formula-both : (c s : List Bool) → length s ≡ w → formula m (c ++ s) ≡ divide p (xor_bits (formula m c) s) (zeros w)
  unfolding formula
  formula-both c s h =
      let k = length c in
      let z = zeros w in
      let n : length (c ++ s) ≡ k + w = simp (length-append, h) refl in
      ap (λ j. remainder p (xor_bits ((c ++ s) ++ z) (m.start ++ zeros j))) n
      ∙ ap (λ y. remainder p (xor_bits ((c ++ s) ++ z) y)) (ap (λ y. m.start ++ y) (sym (zeros-append k w)) ∙ sym (append_assoc m.start (zeros k) z))
      ∙ ap (remainder p) (xor_bits-append (c ++ s) (moved k) z z (n ∙ simp (length-append, length-replicate) (omega arith)))
      ∙ ap (λ y. remainder p (xor_bits (c ++ s) (moved k) ++ y)) (xor_bits-zeros w z (length-zeros w))
      ∙ remainder-append p (xor_bits (c ++ s) (moved k)) z
      ∙ ap (λ y. divide p y z) (formula_then c s h)

  residue_divide : (i : Bool) → residue_if i w p ≡ divide p (inversion i w) (zeros w)
  residue_divide true = remainder-append p (ones w) (zeros w) ∙ ap (λ z. divide p z (zeros w)) (remainder-full p (ones w) (length-replicate w true))
  residue_divide false = sym (divide-zeros p w w)

  -- content and string leave the sum of that and of L's own remainder
  remainder-both : (c s : List Bool) → length s ≡ w → xor_bits (remainder p (moved (length c))) (remainder p (c ++ s)) ≡ xor_bits (formula m c) s
  remainder-both c s h =
      let l = moved (length c) in
      sym (remainder-xor p l (c ++ s) (simp (length-append, length-replicate, h) (omega arith)))
      ∙ ap (remainder p) (xor_bits_comm l (c ++ s)) ∙ formula_then c s h

pub receiver : ReceiverLaw
receiver w m o c s h =
    let wide = o.generator.width in
    let q : length m.start ≡ length m.generator = o.start-length ∙ sym wide in
    let k : length s ≡ length m.generator = h ∙ sym wide in
    let i = m.inverted in
    let p = m.generator in
    let sum = xor_bits (formula m c) s in
    let target = inversion i (length p) in
    let ls : length sum ≡ length p = length-xor (formula m c) s (length-formula m q c ∙ sym k) ∙ k in
    let e = check_iff m q c s k in
    let r : residue_if i w p ≡ divide p target (zeros (length p)) = ap (λ n. residue_if i n p) (sym wide) ∙ residue_divide m q i in (
      λ f. e.1
          (divide_injective p sum target (length p) o.generator.constant ls (length-inversion i (length p))
          (sym (formula-both m q c s k) ∙ f ∙ r)),
      λ f. formula-both m q c s k ∙ ap (λ z. divide p z (zeros (length p))) (e.0 f) ∙ sym r,
    )

pub one_remainder : OneRemainder
one_remainder w m o c d s t n f h =
    let wide = o.generator.width in
    let q : length m.start ≡ length m.generator = o.start-length ∙ sym wide in
    let p = m.generator in
    let k : length t ≡ length p = h ∙ sym wide in
    let j : length s ≡ length p = ap length f ∙ length-check m q c in
    let u = remainder p (m.start ++ zeros (length c)) in
    let es = check_iff m q c s j in
    let et = check_iff m q d t k in
    let same_l : remainder p (m.start ++ zeros (length d)) ≡ u = ap (λ z. remainder p (m.start ++ zeros z)) (sym n) in
    let left : xor_bits u (remainder p (c ++ s)) ≡ inversion m.inverted (length p) = remainder-both m q c s j ∙ es.0 f in
    let right : xor_bits u (remainder p (d ++ t)) ≡ xor_bits (formula m d) t = ap (λ z. xor_bits z (remainder p (d ++ t))) (sym same_l) ∙ remainder-both m q d t k in (
      λ g. xor_bits_injective u (remainder p (c ++ s)) (remainder p (d ++ t))
          (length-remainder p (c ++ s) ∙ sym (length-remainder p (m.start ++ zeros (length c))))
          (length-remainder p (d ++ t) ∙ sym (length-remainder p (m.start ++ zeros (length c))))
          (left ∙ sym (right ∙ et.0 g)),
      λ g. et.1 (sym right ∙ ap (xor_bits u) (sym g) ∙ left),
    )

pub difference_divides : CheckedDifference
unfolding checked_bits
difference_divides w m o c d n =
    let q : length m.start ≡ length m.generator = o.start-length ∙ sym o.generator.width in
    let j : length (check_bits m c) ≡ w = length-check m q c ∙ o.generator.width in
    let k : length (check_bits m d) ≡ w = length-check m q d ∙ o.generator.width in
    (difference m.generator (c ++ check_bits m c) (d ++ check_bits m d) (simp (length-append, n, j, k) refl)).0
    ((one_remainder w m o c d (check_bits m c) (check_bits m d) n refl k).0 refl)
