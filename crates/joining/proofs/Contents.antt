-- The joined check of the checks of two contents, and of an empty part. Assumes nothing.
use mathlib.Core.Path.{◌≡◌, refl, sym, ap, ap₂, ◌∙◌}
use Prim.Native.Nat.{ℕ, ◌<◌}
use native.Mathlib.Omega.{arith}
use mathlib.Core.Bool.{Bool, true, false}
use mathlib.Core.List.{List, [], ◌∷◌, ◌++◌}
use lib.ListN.{length, length-append, length-replicate}
use Rattle.bits.specs.Strings.{xor_bits, zeros, ones}
use Rattle.bits.proofs.Strings.{length-zeros, length-xor, xor_bits_comm, xor_bits_assoc, xor_bits_left_comm, xor_bits-zeros, xor_bits_self, xor_bits_cancel, invert-xor}
use Rattle.division.specs.Division.{divide, remainder, constant_term}
use Rattle.division.proofs.Linear.{length-divide, length-remainder, remainder-xor}
use Rattle.division.proofs.Zeros.{divide-zeros}
use Rattle.registers.specs.Register.{enter}
use Rattle.registers.proofs.Enter.{enter-append, enter_is_formula}
use Rattle.cyclic.specs.Check.{Parameters, formula, invert_if, check_bits}
use Rattle.cyclic.proofs.Checks.{length-check}
use Rattle.joining.specs.Joining.{joined}
use Rattle.joining.specs.Laws.{Joinable, JoinedCheck, EmptyFirst, EmptySecond}
use Rattle.joining.proofs.Joined.{remainder_moved, joined_divide, divide_sum}

-- inversion adds a string, which is also what it makes of zeros
inversion-sum : (i : Bool) (r : List Bool) → invert_if i r ≡ xor_bits r (invert_if i (zeros (length r)))
inversion-sum true r =
    let n = length r in
    let all : invert_if true (zeros n) ≡ ones n =
    invert-xor (zeros n) ∙ ap (λ k. xor_bits (ones k) (zeros n)) (length-zeros n) ∙ xor_bits_comm (ones n) (zeros n) ∙ xor_bits-zeros n (ones n) (length-replicate n true) in
    invert-xor r ∙ xor_bits_comm (ones n) r ∙ ap (xor_bits r) (sym all)
inversion-sum false r = sym (xor_bits_comm r (zeros (length r)) ∙ xor_bits-zeros (length r) r refl)

-- a divisor with a constant term has some width
positive : (p : List Bool) → constant_term p ≡ true → 0 < length p
positive [] h = absurd (cc)
positive (x ∷ p) h = omega arith

module _ (w : ℕ) (m : Parameters) (o : Joinable w m) where
  abbrev p : List Bool
  p = m.generator

  pub wide : length p ≡ w
  wide = o.of_width.generator.width

  some : 0 < length p
  some = positive p o.of_width.generator.constant

  start_wide : length m.start ≡ length p
  start_wide = o.of_width.start-length ∙ sym wide

  length-formula : (c : List Bool) → length (formula m c) ≡ length p
  unfolding formula
  length-formula c = length-remainder p _

  -- the start is what inversion adds
  check-sum : (c : List Bool) → check_bits m c ≡ xor_bits (formula m c) m.start
  unfolding check_bits
  check-sum c =
      inversion-sum m.inverted (formula m c)
      ∙ ap (λ n. xor_bits (formula m c) (invert_if m.inverted (zeros n))) (length-formula c ∙ wide)
      ∙ ap (xor_bits (formula m c)) (sym o.start_is_inversion)

  formula-enter : (c : List Bool) → formula m c ≡ enter p m.start c
  unfolding formula
  formula-enter c = sym (enter_is_formula (length p) p m.start c some refl start_wide)

  -- a register r that a content enters: the content's own remainder, and the register moved up
  enter-sum : (r c : List Bool) → length r ≡ length p → enter p r c ≡ xor_bits (remainder p (c ++ zeros (length p))) (divide p r (zeros (length c)))
  enter-sum r c h =
      enter_is_formula (length p) p r c some refl h
      ∙ remainder-xor p (c ++ zeros (length p)) (r ++ zeros (length c)) (simp (length-append, length-replicate) (omega arith))
      ∙ ap (xor_bits (remainder p (c ++ zeros (length p)))) (remainder_moved p r (length c) h)

  formula-append : (c d : List Bool) → formula m (c ++ d) ≡ xor_bits (remainder p (d ++ zeros (length p))) (divide p (formula m c) (zeros (length d)))
  formula-append c d =
      formula-enter (c ++ d) ∙ enter-append p m.start c d ∙ ap (λ r. enter p r d) (sym (formula-enter c)) ∙ enter-sum (formula m c) d (length-formula c)

  -- the start, moved up, stands in both checks and is gone from their sum
  check-append : (c d : List Bool) → joined p (check_bits m c) (check_bits m d) (length d) ≡ check_bits m (c ++ d)
  check-append c d =
      let z = zeros (length d) in
      let L = m.start in
      let D = remainder p (d ++ zeros (length p)) in
      let A = divide p (formula m c) z in
      let S = divide p L z in
      let lA : length A ≡ length p = length-divide p (formula m c) z (length-formula c) in
      let lS : length S ≡ length p = length-divide p L z start_wide in
      let lD : length D ≡ length p = length-remainder p _ in
      let l : length (xor_bits (xor_bits D A) L) ≡ length S =
      length-xor (xor_bits D A) L (length-xor D A (lD ∙ sym lA) ∙ lA ∙ sym start_wide) ∙ start_wide ∙ sym lS in
      joined_divide p (check_bits m c) (check_bits m d) (length d) (length-check m start_wide c) (length-check m start_wide d)
      ∙ ap₂ xor_bits
      (ap (λ v. divide p v z) (check-sum c) ∙ divide_sum p (formula m c) L (length d) (length-formula c) start_wide)
      (check-sum d ∙ ap (λ v. xor_bits v L) (formula-enter d ∙ enter-sum L d start_wide))
      ∙ regroup A S D L ∙ xor_bits_cancel S (xor_bits (xor_bits D A) L) l
      ∙ ap (λ v. xor_bits v L) (sym (formula-append c d)) ∙ sym (check-sum (c ++ d))
    where
      regroup : (A S D L : List Bool) → xor_bits (xor_bits A S) (xor_bits (xor_bits D S) L) ≡ xor_bits S (xor_bits S (xor_bits (xor_bits D A) L))
      regroup A S D L =
          ap (λ v. xor_bits v (xor_bits (xor_bits D S) L)) (xor_bits_comm A S) ∙ xor_bits_assoc S A (xor_bits (xor_bits D S) L)
          ∙ ap (xor_bits S)
          (ap (λ v. xor_bits A (xor_bits v L)) (xor_bits_comm D S) ∙ ap (xor_bits A) (xor_bits_assoc S D L) ∙ xor_bits_left_comm A S (xor_bits D L)
          ∙ ap (xor_bits S) (xor_bits_left_comm A D L ∙ sym (xor_bits_assoc D A L)))

  -- the check of no content is zero
  empty-check : check_bits m [] ≡ zeros (length p)
  unfolding enter
  empty-check = check-sum [] ∙ ap (λ v. xor_bits v m.start) (formula-enter []) ∙ xor_bits_self m.start ∙ ap zeros start_wide

pub joined_check : JoinedCheck
joined_check = check-append

pub empty_first : EmptyFirst
empty_first w m o b h n =
    let p = m.generator in
    let k : length b ≡ length p = h ∙ sym (wide w m o) in
    joined_divide p (check_bits m []) b n (length-check m (start_wide w m o) []) k
    ∙ ap (λ z. xor_bits (divide p z (zeros n)) b) (empty-check w m o) ∙ ap (λ z. xor_bits z b) (divide-zeros p (length p) n) ∙ xor_bits-zeros (length p) b k

pub empty_second : EmptySecond
unfolding divide
empty_second w m o a h =
    let p = m.generator in
    let k : length a ≡ length p = h ∙ sym (wide w m o) in
    joined_divide p a (check_bits m []) 0 k (length-check m (start_wide w m o) [])
    ∙ ap (xor_bits a) (empty-check w m o) ∙ xor_bits_comm a (zeros (length p)) ∙ xor_bits-zeros (length p) a k
