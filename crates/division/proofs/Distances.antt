-- The least distance of two strings that leave one remainder: from three bits on, one more where no multiple of the divisor has just so
-- many. Assumes nothing.
use mathlib.Core.Path.{◌≡◌, refl, sym, ap, ap₂, ◌∙◌}
use Prim.Native.Nat.{ℕ, suc, ◌+◌, ◌-◌, ◌%◌, ◌≤◌, ◌<◌}
use native.Mathlib.Decide.{dec_le}
use native.Mathlib.Nat.{lt_of_not-le}
use native.Mathlib.Omega.{arith}
use mathlib.Core.Bool.{Bool, true, cond}
use mathlib.Core.List.{List, [], ◌∷◌}
use lib.ListN.{length}
use Rattle.bits.specs.Strings.{xor_bits, zeros, weight, parity}
use Rattle.bits.proofs.Strings.{length-zeros, length-xor, xor_bits-zeros, equal_of_xor, weight-zero, parity-zeros, weight-parity}
use Rattle.division.specs.Division.{divide, power, constant_term}
use Rattle.division.specs.Laws.{EvenTerms, OrderAbove, AtLeastWithin, NoMultiple, AtLeastThree, AtLeastOneMore, NoOddMultiple, NoMultipleOfThree}
use Rattle.division.proofs.Linear.{divide_linear}
use Rattle.division.proofs.Zeros.{divide_injective}
use Rattle.division.proofs.Powers.{power-add}
use Rattle.division.proofs.Detection.{difference, length-power, parity-remainder, three_bits}
use Rattle.division.proofs.Sums.{degrees, length-degrees, Falling, falling, no_remainder, two_and_rest, sum-one}

pub at_least_one : (p : List Bool) (n : ℕ) → AtLeastWithin 1 n p
at_least_one p n a b u short unequal =
    elim (dec_le 1 (weight (xor_bits a b))) [
      | yes h ↦ h
      | no h ↦
          let few = lt_of_not-le h in
          absurd
          (unequal
          (equal_of_xor a b u.one_length
          (weight-zero (xor_bits a b) (omega arith) ∙ ap zeros (length-xor a b u.one_length))))
    ]

pub at_least_three : AtLeastThree
at_least_three p n l w far a b u short unequal =
    elim (dec_le 3 (weight (xor_bits a b)))
    [ yes h ↦ h | no h ↦ let few = lt_of_not-le h in absurd (unequal (three_bits p a b l w (λ d i k. far d i (omega arith)) u (omega arith))) ]

pub at_least_one_more : AtLeastOneMore
at_least_one_more p k n least none a b u short unequal =
    elim (dec_le (suc k) (weight (xor_bits a b))) [
      | yes h ↦ h
      | no h ↦
          let few = lt_of_not-le h in
          absurd
          (none (xor_bits a b) (omega (arith, length-xor a b u.one_length, u.one_length)) ((difference p a b u.one_length).0 u.one_remainder)
          (omega (arith, least a b u short unequal)))
    ]

pub no_odd_multiple : NoOddMultiple
no_odd_multiple p k n terms odd s short d w =
    let e : parity s ≡ parity (zeros (length p)) = sym (parity-remainder p s terms) ∙ ap parity d in
    let z : weight s % 2 ≡ 0 = weight-parity s ∙ ap (λ t. cond t 1 0) (e ∙ parity-zeros (length p)) in
    omega arith

-- so four bits where both hold
pub at_least_four : (p : List Bool) (n : ℕ) → constant_term p ≡ true → 0 < length p → EvenTerms p → OrderAbove p (n - 1) → AtLeastWithin 4 n p
at_least_four p n l w terms far = at_least_one_more p 3 n (at_least_three p n l w far) (no_odd_multiple p 3 n terms refl)

-- and six where no multiple has four
pub at_least_six : (p : List Bool) (n : ℕ) → constant_term p ≡ true → 0 < length p → EvenTerms p → OrderAbove p (n - 1) → NoMultiple 4 n p → AtLeastWithin 6 n p
at_least_six p n l w terms far four =
    at_least_one_more p 5 n (at_least_one_more p 4 n (at_least_four p n l w terms far) four) (no_odd_multiple p 5 n terms refl)

-- ---- three bits

-- two powers whose sum is a third, brought down by it
module _ (p : List Bool) (l : constant_term p ≡ true) where
  brought_down : (i j k : ℕ) → k ≤ i → k ≤ j → xor_bits (power p j) (power p i) ≡ power p k → xor_bits (power p (j - k)) (power p (i - k)) ≡ power p 0
  brought_down i j k h g e =
      let z = zeros k in
      let a = power p (j - k) in
      let b = power p (i - k) in
      let la : length a ≡ length p = length-power p (j - k) in
      let lb : length b ≡ length p = length-power p (i - k) in
      let ea : divide p a z ≡ power p j = sym (power-add p (j - k) k) ∙ ap (power p) {x = j - k + k} {y = j} (omega arith) in
      let eb : divide p b z ≡ power p i = sym (power-add p (i - k) k) ∙ ap (power p) {x = i - k + k} {y = i} (omega arith) in
      let ec : divide p (power p 0) z ≡ power p k = sym (power-add p 0 k) ∙ ap (power p) {x = 0 + k} {y = k} (omega arith) in
      divide_injective p (xor_bits a b) (power p 0) k l (length-xor a b (la ∙ sym lb) ∙ lb) (length-power p 0)
      (ap (divide p (xor_bits a b)) (sym (xor_bits-zeros k z (length-zeros k))) ∙ divide_linear p a b z z la lb refl ∙ ap₂ xor_bits ea eb ∙ e ∙ sym ec)

pub no_multiple_of_three : NoMultipleOfThree
no_multiple_of_three p n l none s short d w = go (degrees s) refl (length-degrees s ∙ w)
  where
    go : (ds : List ℕ) → degrees s ≡ ds → length (degrees s) ≡ 3 → ⊥
    go [] e m = absurd (omega (arith, ap length e))
    go (i ∷ []) e m = absurd (omega (arith, ap length e))
    go (i ∷ j ∷ []) e m = absurd (omega (arith, ap length e))
    go (i ∷ j ∷ k ∷ []) e m =
        let f : Falling (length s) (i ∷ j ∷ k ∷ []) = rw e at (falling s) in
        let t : xor_bits (power p i) (power p j) ≡ power p k = two_and_rest p i j (k ∷ []) (no_remainder p s d e) ∙ sum-one p k in
        none (j - k) (i - k) (omega arith) (omega arith) (omega (arith, short)) (brought_down p l j i k (omega arith) (omega arith) t)
    go (i ∷ j ∷ k ∷ m ∷ ds) e q = absurd (omega (arith, ap length e))
