-- What is proved of division: each statement once, under the name that its proof carries. Assumes nothing.
use Rattle.std.specs.Prelude.{◌≡◌, ◌↔◌, ℕ, suc, ◌-◌, ◌%◌, ◌≤◌, ◌<◌, Bool, true, List, [], ◌∷◌, ◌++◌, length}
use Rattle.bits.specs.Strings.{xor_bits, zeros, ones, weight, parity}
use Rattle.bits.specs.Differences.{differing, Burst}
use Rattle.division.specs.Division.{remainder, Divides, power, PowerIsOne, Divided, constant_term}
use Rattle.division.specs.Generators.{ieee32, ccitt16, receiver16, receiver32, printed32}

-- ---- the remainder

-- bits = q · P + r
abbrev pub DivisionLaw : Type 0
DivisionLaw = (p bits : List Bool) → 0 < length p → (q : List Bool) × Divided p bits q (remainder p bits)

-- and of no other q and r, with r shorter than P
abbrev pub DivisionIsUnique : Type 0
DivisionIsUnique = (p bits q r q' r' : List Bool) → Divided p bits q r → Divided p bits q' r' → (q ≡ q') × (r ≡ r')

-- the remainder of a sum is the sum of the remainders
abbrev pub RemainderIsLinear : Type 0
RemainderIsLinear = (p a b : List Bool) → length a ≡ length b → remainder p (xor_bits a b) ≡ xor_bits (remainder p a) (remainder p b)

-- zeros before a string do not change its remainder
abbrev pub LeadingZeros : Type 0
LeadingZeros = (p : List Bool) (n : ℕ) (a : List Bool) → remainder p (zeros n ++ a) ≡ remainder p a

-- zeros behind it do not change whether the divisor divides it, where x does not divide the divisor
abbrev pub TrailingZeros : Type 0
TrailingZeros = (p a : List Bool) (n : ℕ) → constant_term p ≡ true → Divides p (a ++ zeros n) ↔ Divides p a

-- ---- which changes of a string leave its remainder

-- two strings of one length that leave one remainder
pub record Undetected (p a b : List Bool) : Type 0 where
  pub one_length : length a ≡ length b
  pub one_remainder : remainder p a ≡ remainder p b

-- those whose difference the divisor divides
abbrev pub DifferenceDivides : Type 0
DifferenceDivides = (p a b : List Bool) → length a ≡ length b → (remainder p a ≡ remainder p b) ↔ Divides p (xor_bits a b)

-- no burst within the width
abbrev pub DetectsBursts : Type 0
DetectsBursts = (p a b : List Bool) → constant_term p ≡ true → Undetected p a b → (n : ℕ) → n ≤ length p → Burst n (differing a b) → a ≡ b

-- x + 1 divides the divisor: it has an even number of terms, so its low part p an odd one
abbrev pub EvenTerms : List Bool → Type 0
EvenTerms p = parity p ≡ true

-- then no odd number of bits
abbrev pub DetectsOdd : Type 0
DetectsOdd = (p a b : List Bool) → EvenTerms p → Undetected p a b → weight (xor_bits a b) % 2 ≡ 0

-- two bits exactly where x to the power of their distance is 1
abbrev pub TwoBits : Type 0
TwoBits =
    (p a b : List Bool) → constant_term p ≡ true → length a ≡ length b → (i j : ℕ) → differing a b ≡ i ∷ j ∷ []
    → (remainder p a ≡ remainder p b) ↔ PowerIsOne p (j - i)

-- x^d is 1 at d = n, and at no other d from 1 to the limit
abbrev pub OrderIs : List Bool → ℕ → ℕ → Type 0
OrderIs p n limit = (d : ℕ) → 0 < d → d ≤ limit → PowerIsOne p d ↔ (d ≡ n)

-- x^d is 1 at no d from 1 to the limit
abbrev pub OrderAbove : List Bool → ℕ → Type 0
OrderAbove p limit = (d : ℕ) → 0 < d → d ≤ limit → PowerIsOne p d → ⊥

-- where that holds of every distance within the string, at least three bits
abbrev pub DetectsTwo : Type 0
DetectsTwo =
    (p a b : List Bool) → constant_term p ≡ true → 0 < length p → OrderAbove p (length a - 1) → Undetected p a b → weight (xor_bits a b) ≤ 2 → a ≡ b

-- ---- the least distance of two strings that leave one remainder, by their length

-- two unequal ones of at most n bits differ in at least k bits
abbrev pub AtLeastWithin : ℕ → ℕ → List Bool → Type 0
AtLeastWithin k n p = (a b : List Bool) → Undetected p a b → length a ≤ n → (a ≡ b → ⊥) → k ≤ weight (xor_bits a b)

-- the divisor divides no string of at most n bits that has k bits set
abbrev pub NoMultiple : ℕ → ℕ → List Bool → Type 0
NoMultiple k n p = (s : List Bool) → length s ≤ n → Divides p s → weight s ≡ k → ⊥

-- x^j + x^i + 1 leaves a remainder for all 0 < i < j ≤ limit
abbrev pub NoTrinomial : List Bool → ℕ → Type 0
NoTrinomial p limit = (i j : ℕ) → 0 < i → i < j → j ≤ limit → xor_bits (power p j) (power p i) ≡ power p 0 → ⊥

-- three bits where x^d is 1 at no distance within the string
abbrev pub AtLeastThree : Type 0
AtLeastThree = (p : List Bool) (n : ℕ) → constant_term p ≡ true → 0 < length p → OrderAbove p (n - 1) → AtLeastWithin 3 n p

-- one bit more where no multiple has just k bits
abbrev pub AtLeastOneMore : Type 0
AtLeastOneMore = (p : List Bool) (k n : ℕ) → AtLeastWithin k n p → NoMultiple k n p → AtLeastWithin (suc k) n p

-- none has an odd number of bits where x + 1 divides the divisor
abbrev pub NoOddMultiple : Type 0
NoOddMultiple = (p : List Bool) (k n : ℕ) → EvenTerms p → k % 2 ≡ 1 → NoMultiple k n p

-- none has three where no trinomial is a multiple
abbrev pub NoMultipleOfThree : Type 0
NoMultipleOfThree = (p : List Bool) (n : ℕ) → constant_term p ≡ true → NoTrinomial p (n - 1) → NoMultiple 3 n p

-- ---- the generators of the standard

-- a generator of width w with a constant term, so that x does not divide it
pub record Generator (w : ℕ) (p : List Bool) : Type 0 where
  pub width : length p ≡ w
  pub constant : constant_term p ≡ true

-- the order of x for both 16-bit generators
abbrev pub order16 : ℕ
order16 = 32767

-- the greatest distance of two checked bits: 4,096 bytes and a check of 16 bits, 65,536 bytes and a check of 32 bits
abbrev pub reach16 : ℕ
reach16 = 32783

abbrev pub reach32 : ℕ
reach32 = 524319

-- the receiver's remainder is that of x^w · L, L being w ones: for appendix 1 as printed, for appendix 2 not
abbrev pub Receiver16 : Type 0
Receiver16 = remainder ccitt16 (ones 16 ++ zeros 16) ≡ receiver16

abbrev pub Receiver32 : Type 0
Receiver32 = remainder ieee32 (ones 32 ++ zeros 32) ≡ receiver32

abbrev pub Misprint32 : Type 0
Misprint32 = remainder ieee32 (ones 32 ++ zeros 32) ≡ printed32 → ⊥
