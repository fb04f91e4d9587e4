-- What is proved of fixed blocks: each statement once, under the name that its proof carries. Assumes nothing.
use Rattle.std.specs.Prelude.{◌≡◌, ◌↔◌, ℕ, ◌+◌, ◌-◌, ◌*◌, ◌%◌, ◌≤◌, List, [], ◌∷◌, length}
use Rattle.bits.specs.Strings.{xor_bits, weight}
use Rattle.bits.specs.Bytes.{bits_of, Bytes}
use Rattle.bits.specs.Differences.{differing_bits, Burst}
use Rattle.division.specs.Division.{PowerIsOne}
use Rattle.division.specs.Laws.{EvenTerms}
use Rattle.cyclic.specs.Check.{Parameters, check_bits}
use Rattle.cyclic.specs.Laws.{OfWidth}
use Rattle.fixed_polynomials.specs.Polynomials.{degree8, degree16, degree24}
use Rattle.fixed_block.specs.declared.Polynomial.{Polynomial}
use Rattle.fixed_block.specs.Block.{parameters, check_length, bytes, content_of, check_in, write_fixed, read_fixed}

-- ---- accepted blocks

-- 64, 65 and 18 are all passed
pub record Accepted (m : Parameters) (block : List ℕ) : Type 0 where
  pub content : 1 + check_length m ≤ length block
  pub within : length block ≤ m.limit
  pub check : bits_of (check_in m block) ≡ check_bits m (bits_of (content_of m block))

-- that is, reading takes the block where the output holds its content
abbrev pub AcceptedIsTaken : Type 0
AcceptedIsTaken =
    (m : Parameters) (block : List ℕ) (room : ℕ) → length block - check_length m ≤ room
    → Accepted m block ↔ (read_fixed m block room ≡ bytes (content_of m block))

-- ---- there and back, over a width of k bytes

-- what is written is read back
abbrev pub WrittenReads : Type 0
WrittenReads =
    (k : ℕ) (m : Parameters) → OfWidth (8 * k) m → (content block : List ℕ) (room : ℕ) → write_fixed m content room ≡ bytes block
    → (more : ℕ) → length content ≤ more → read_fixed m block more ≡ bytes content

-- what is read writes back
abbrev pub ReadWrites : Type 0
ReadWrites =
    (k : ℕ) (m : Parameters) → OfWidth (8 * k) m → (block content : List ℕ) (room : ℕ) → Bytes block → read_fixed m block room ≡ bytes content
    → (more : ℕ) → length block ≤ more → write_fixed m content more ≡ bytes block

-- ---- two accepted blocks of one length, over a width of k bytes

-- they never differ in an odd number of bits, where x + 1 divides the polynomial
abbrev pub NeverOdd : Type 0
NeverOdd =
    (k : ℕ) (m : Parameters) → OfWidth (8 * k) m → EvenTerms m.generator → (A B : List ℕ) → length A ≡ length B → Accepted m A → Accepted m B
    → weight (xor_bits (bits_of A) (bits_of B)) % 2 ≡ 0

-- nor, if unequal, by a burst within the check's width
abbrev pub NoBurst : Type 0
NoBurst =
    (k : ℕ) (m : Parameters) → OfWidth (8 * k) m → (A B : List ℕ) → Bytes A → Bytes B → length A ≡ length B → Accepted m A → Accepted m B
    → (n : ℕ) → n ≤ 8 * k → Burst n (differing_bits A B) → A ≡ B

-- an accepted block with just two bits changed is accepted again exactly where x to the power of their distance is 1
abbrev pub TwoBits : Type 0
TwoBits =
    (k : ℕ) (m : Parameters) → OfWidth (8 * k) m → (A B : List ℕ) → length A ≡ length B → Accepted m A → (i j : ℕ) → differing_bits A B ≡ i ∷ j ∷ []
    → Accepted m B ↔ PowerIsOne m.generator (j - i)

-- ---- the three polynomials

-- each is of a width of whole bytes, and x + 1 divides it, so that all of the above holds of it
pub record Fits (p : Polynomial) : Type 0 where
  pub width : OfWidth (8 * check_length (parameters p)) (parameters p)
  pub even : EvenTerms (parameters p).generator

abbrev pub AllFit : Type 0
AllFit = (p : Polynomial) → Fits p

-- degree 8: exactly where they are 127 apart
abbrev pub TwoBits8 : Type 0
TwoBits8 =
    (A B : List ℕ) → length A ≡ length B → Accepted degree8 A → (i j : ℕ) → differing_bits A B ≡ i ∷ j ∷ [] → Accepted degree8 B ↔ (j - i ≡ 127)

-- degrees 16 and 24: nowhere in a block
abbrev pub NeverTwo : Parameters → Type 0
NeverTwo m = (A B : List ℕ) → length A ≡ length B → Accepted m A → Accepted m B → (i j : ℕ) → differing_bits A B ≡ i ∷ j ∷ [] → ⊥

pub record NoTwoBits : Type 0 where
  pub degree_16 : NeverTwo degree16
  pub degree_24 : NeverTwo degree24
