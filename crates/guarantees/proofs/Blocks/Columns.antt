-- Bytes of one parity and with one sum of rows: unequal ones differ in at least four bits, and in no burst of at most nine.
-- Assumes nothing.
use mathlib.Core.Path.{◌≡◌, refl, sym, ap, ap₂, ◌∙◌}
use Prim.Native.Nat.{ℕ, zero, suc, ◌+◌, ◌-◌, ◌%◌, ◌≤◌}
use native.Mathlib.Omega.{arith}
use mathlib.Core.Bool.{Bool, true, false, xor, cond}
use mathlib.Core.List.{List, [], ◌∷◌, ◌++◌}
use lib.ListN.{length, length-append, length-replicate}
use Rattle.bits.specs.Strings.{xor_bits, zeros, weight, parity}
use Rattle.bits.specs.Bytes.{low_bits, bits_of}
use Rattle.bits.specs.Differences.{Burst, differing}
use Rattle.bits.proofs.Strings.{xor_self, xor_cancel, length-xor, xor_bits_comm, xor_bits_self, xor_bits_injective, equal_of_xor, weight-append, weight-zeros, weight-zero, weight-parity, parity_snoc, parity-xor}
use Rattle.bits.proofs.Bytes.{length-low_bits, length-bits_of, bits_of-xor}
use Rattle.bits.proofs.Differences.{burst_window}
use Rattle.division.specs.Division.{divide, remainder, Divides}
use Rattle.division.proofs.Linear.{length-remainder, remainder-append}
use Rattle.division.proofs.Zeros.{leading, trailing}
use Rattle.division.proofs.Detection.{difference}
use Rattle.block.specs.declared.Parity.{Parity}
use Rattle.block.specs.Check.{row_sums}
use Rattle.block.proofs.Passed.{ParitiesRight}
use Rattle.guarantees.proofs.Blocks.RowSums.{all_sums, length-all, one_more_sums, divisor, divide-eight, remainder_bytes}

-- ---- bytes, pair by pair of one parity

pub data EqualParities : List ℕ → List ℕ → Type 0 where
  no_byte : EqualParities [] []
  one_byte : {x y : List ℕ} (a b : ℕ) → parity (low_bits 8 a) ≡ parity (low_bits 8 b) → EqualParities x y → EqualParities (a ∷ x) (b ∷ y)

pub equal_parities : (p : Parity) (x y : List ℕ) → length x ≡ length y → ParitiesRight p x → ParitiesRight p y → EqualParities x y
equal_parities p [] [] l h k = no_byte
equal_parities p [] (b ∷ y) l h k = absurd (omega arith)
equal_parities p (a ∷ x) [] l h k = absurd (omega arith)
equal_parities p (a ∷ x) (b ∷ y) l h k = one_byte a b (h.0 ∙ sym k.0) (equal_parities p x y (omega arith) h.1 k.1)

-- in how many bits they differ
abbrev pub distance_of : List ℕ → List ℕ → ℕ
distance_of x y = weight (xor_bits (bits_of x) (bits_of y))

abbrev pub byte_distance : ℕ → ℕ → ℕ
byte_distance a b = weight (xor_bits (low_bits 8 a) (low_bits 8 b))

distance-cons : (a b : ℕ) (x y : List ℕ) → distance_of (a ∷ x) (b ∷ y) ≡ byte_distance a b + distance_of x y
distance-cons a b x y = ap weight (bits_of-xor a b x y) ∙ weight-append (xor_bits (low_bits 8 a) (low_bits 8 b)) (xor_bits (bits_of x) (bits_of y))

one_length : (a b : ℕ) → length (low_bits 8 a) ≡ length (low_bits 8 b)
one_length a b = length-low_bits 8 a ∙ sym (length-low_bits 8 b)

equal_byte : (a b : ℕ) → byte_distance a b ≡ 0 → low_bits 8 a ≡ low_bits 8 b
equal_byte a b e =
    equal_of_xor (low_bits 8 a) (low_bits 8 b) (one_length a b)
    (weight-zero (xor_bits (low_bits 8 a) (low_bits 8 b)) e ∙ ap zeros (length-xor (low_bits 8 a) (low_bits 8 b) (one_length a b)))

equal_cons : (a b : ℕ) (x y : List ℕ) → low_bits 8 a ≡ low_bits 8 b → bits_of x ≡ bits_of y → bits_of (a ∷ x) ≡ bits_of (b ∷ y)
unfolding bits_of
equal_cons a b x y e f = ap₂ ◌++◌ e f

no_distance : (a b : ℕ) → low_bits 8 a ≡ low_bits 8 b → byte_distance a b ≡ 0
no_distance a b e =
    ap (λ z. weight (xor_bits (low_bits 8 a) z)) (sym e) ∙ ap weight (xor_bits_self (low_bits 8 a)) ∙ weight-zeros (length (low_bits 8 a))

-- two bytes of one parity differ in an even number of bits
pub even_byte : (a b : ℕ) → parity (low_bits 8 a) ≡ parity (low_bits 8 b) → byte_distance a b % 2 ≡ 0
even_byte a b e =
    let s = parity (low_bits 8 b) in
    weight-parity (xor_bits (low_bits 8 a) (low_bits 8 b))
    ∙ ap (λ t. cond t 1 0) (parity-xor (low_bits 8 a) (low_bits 8 b) (one_length a b) ∙ ap (λ t. xor t s) e ∙ xor_self s)

-- so unequal ones in at least two
pub at_least_two : {x y : List ℕ} → EqualParities x y → (bits_of x ≡ bits_of y → ⊥) → 2 ≤ distance_of x y
at_least_two no_byte n = absurd (n refl)
at_least_two (one_byte {x} {y} a b e h) n = go (byte_distance a b) refl (at_least_two h)
  where
    go : (w : ℕ) → byte_distance a b ≡ w → ((bits_of x ≡ bits_of y → ⊥) → 2 ≤ distance_of x y) → 2 ≤ distance_of (a ∷ x) (b ∷ y)
    go zero q rest = omega (arith, distance-cons a b x y, rest (λ z. n (equal_cons a b x y (equal_byte a b q) z)))
    go (suc zero) q rest = absurd (omega (arith, even_byte a b e))
    go (suc (suc w)) q rest = omega (arith, distance-cons a b x y)

-- ---- all eight rows have one sum: the parity gives the eighth

by_parity : (u v : List Bool) (s t : Bool) → u ≡ v → parity (u ++ s ∷ []) ≡ parity (v ++ t ∷ []) → u ++ s ∷ [] ≡ v ++ t ∷ []
by_parity u v s t e h =
    let one : xor s (parity v) ≡ xor t (parity v) = ap (λ z. xor s (parity z)) (sym e) ∙ sym (parity_snoc u s) ∙ h ∙ parity_snoc v t in
    ap₂ (λ a b. a ++ b ∷ []) e (sym (xor_cancel s (parity v)) ∙ ap (λ z. xor z (parity v)) one ∙ xor_cancel t (parity v))

parity-all : {x y : List ℕ} → EqualParities x y → parity (all_sums x) ≡ parity (all_sums y)
parity-all no_byte = refl
parity-all (one_byte {x} {y} a b e h) =
    parity-xor (low_bits 8 a) (all_sums x) (length-low_bits 8 a ∙ sym (length-all x)) ∙ ap₂ xor e (parity-all h)
    ∙ sym (parity-xor (low_bits 8 b) (all_sums y) (length-low_bits 8 b ∙ sym (length-all y)))

all_equal : {x y : List ℕ} → EqualParities x y → row_sums x ≡ row_sums y → all_sums x ≡ all_sums y
all_equal {x} {y} h e =
    let s = one_more_sums x in
    let t = one_more_sums y in
    s.1 ∙ by_parity (row_sums x) (row_sums y) s.0 t.0 e (sym (ap parity s.1) ∙ parity-all h ∙ ap parity t.1) ∙ sym t.1

-- ---- at least four bits

-- where one byte differs and the sums do not, another byte differs
four_bits : {x y : List ℕ} → EqualParities x y → all_sums x ≡ all_sums y → (bits_of x ≡ bits_of y → ⊥) → 4 ≤ distance_of x y
four_bits no_byte s n = absurd (n refl)
four_bits (one_byte {x} {y} a b e h) s n = go (byte_distance a b) refl (four_bits h)
  where
    byte_equal : bits_of x ≡ bits_of y → low_bits 8 a ≡ low_bits 8 b
    byte_equal z =
        let q : all_sums x ≡ all_sums y = sym (remainder_bytes x) ∙ ap (remainder divisor) z ∙ remainder_bytes y in
        xor_bits_injective (all_sums x) (low_bits 8 a) (low_bits 8 b)
        (length-low_bits 8 a ∙ sym (length-all x))
        (length-low_bits 8 b ∙ sym (length-all x))
        (xor_bits_comm (all_sums x) (low_bits 8 a) ∙ s ∙ xor_bits_comm (low_bits 8 b) (all_sums y) ∙ ap (λ r. xor_bits r (low_bits 8 b)) (sym q))

    rest_equal : low_bits 8 a ≡ low_bits 8 b → all_sums x ≡ all_sums y
    rest_equal q =
        xor_bits_injective (low_bits 8 a) (all_sums x) (all_sums y)
        (length-all x ∙ sym (length-low_bits 8 a))
        (length-all y ∙ sym (length-low_bits 8 a))
        (s ∙ ap (λ z. xor_bits z (all_sums y)) (sym q))

    go : (w : ℕ) → byte_distance a b ≡ w → (all_sums x ≡ all_sums y → (bits_of x ≡ bits_of y → ⊥) → 4 ≤ distance_of x y)
        → 4 ≤ distance_of (a ∷ x) (b ∷ y)
    go zero q rest =
        let z = equal_byte a b q in
        omega (arith, distance-cons a b x y, rest (rest_equal z) (λ r. n (equal_cons a b x y z r)))
    go (suc zero) q rest = absurd (omega (arith, even_byte a b e))
    go (suc (suc w)) q rest =
        let two = at_least_two h (λ z. omega (arith, no_distance a b (byte_equal z))) in
        omega (arith, distance-cons a b x y)

pub at_least_four : {x y : List ℕ} → EqualParities x y → row_sums x ≡ row_sums y → (bits_of x ≡ bits_of y → ⊥) → 4 ≤ distance_of x y
at_least_four h e = four_bits h (all_equal h e)

-- ---- a burst of at most nine bits

one_bit : (h : Bool) → weight (remainder divisor (h ∷ [])) ≤ 1
unfolding remainder divide
one_bit true = omega arith
one_bit false = omega arith

weight-cons : (h : Bool) (t : List Bool) → weight (h ∷ t) ≤ suc (weight t)
weight-cons true t = omega arith
weight-cons false t = omega arith

-- nine bits that x^8 + 1 divides are none, or the first and the last
nine_bits : (v : List Bool) → length v ≡ 9 → Divides divisor v → weight v ≤ 2
nine_bits [] l d = absurd (omega arith)
nine_bits (h ∷ t) l d =
    let r = remainder divisor (h ∷ []) in
    let n : length t ≡ 8 = omega arith in
    let e : r ≡ t =
    equal_of_xor r t (length-remainder divisor (h ∷ []) ∙ sym n)
    (sym (divide-eight r t (length-remainder divisor (h ∷ [])) n) ∙ sym (remainder-append divisor (h ∷ []) t) ∙ d ∙ ap zeros (sym n)) in
    omega (arith, weight-cons h t, one_bit h, ap weight e)

short_bits : (v : List Bool) → length v ≤ 9 → Divides divisor v → weight v ≤ 2
short_bits v l d =
    let k = 9 - length v in
    let w = nine_bits (zeros k ++ v) (simp (length-append, length-replicate) (omega arith)) (leading divisor k v ∙ d) in
    omega (arith, weight-append (zeros k) v, weight-zeros k)

-- so bytes that differ in such a burst differ in at most two bits
pub at_most_two : {x y : List ℕ} → EqualParities x y → length x ≡ length y → row_sums x ≡ row_sums y → (b : ℕ) → b ≤ 9
    → Burst b (differing (bits_of x) (bits_of y)) → distance_of x y ≤ 2
at_most_two {x} {y} h l e b s u =
    let v = burst_window b (bits_of x) (bits_of y) u in
    let one : length (bits_of x) ≡ length (bits_of y) = omega (arith, length-bits_of x, length-bits_of y) in
    let d : Divides divisor (xor_bits (bits_of x) (bits_of y)) =
    (difference divisor (bits_of x) (bits_of y) one).0 (remainder_bytes x ∙ all_equal h e ∙ sym (remainder_bytes y)) in
    let f : Divides divisor v.bits =
    (trailing divisor v.bits v.after refl).0
    (sym (leading divisor v.before (v.bits ++ zeros v.after)) ∙ sym (ap (remainder divisor) v.whole) ∙ d) in
    omega (
      arith,
      short_bits v.bits (omega (arith, v.small)) f,
      ap weight v.whole,
      weight-append (zeros v.before) (v.bits ++ zeros v.after),
      weight-append v.bits (zeros v.after),
      weight-zeros v.before,
      weight-zeros v.after,
    )
