-- What is proved of the checks: each statement once, under the name that its proof carries. Assumes nothing.
use Rattle.std.specs.Prelude.{◌≡◌, ◌↔◌, ℕ, Bool, true, false, List, ◌++◌, length}
use Rattle.bits.specs.Strings.{xor_bits, zeros, ones}
use Rattle.division.specs.Division.{remainder, Divides}
use Rattle.division.specs.Generators.{ibm16, receiver16, receiver32}
use Rattle.division.specs.Laws.{Generator}
use Rattle.cyclic.specs.Check.{Parameters, check_bits, checked_bits, Receives, method3, method4, method5, method6}

-- parameters of width w
pub record OfWidth (w : ℕ) (m : Parameters) : Type 0 where
  pub generator : Generator w m.generator
  pub start-length : length m.start ≡ w

-- ---- what a receiver finds

-- the remainder of a content with its check, by the same formula: that of x^w · (w ones) where the check is inverted, else zero
abbrev pub residue_if : Bool → ℕ → List Bool → List Bool
residue_if true w p = remainder p (ones w ++ zeros w)
residue_if false w p = zeros w

-- content and check leave this remainder if and only if the check is the rule's
abbrev pub ReceiverLaw : Type 0
ReceiverLaw = (w : ℕ) (m : Parameters) → OfWidth w m → Receives m w (residue_if m.inverted w m.generator)

-- in the numbers of the appendices
pub record Receivers : Type 0 where
  pub method_3 : Receives method3 16 receiver16
  pub method_4 : Receives method4 16 (zeros 16)
  pub method_5 : Receives method5 16 receiver16
  pub method_6 : Receives method6 32 receiver32

-- appendix 3 has no L: the check of method 4 is the remainder of x^16 · C
abbrev pub Method4Formula : Type 0
Method4Formula = (c : List Bool) → check_bits method4 c ≡ remainder ibm16 (c ++ zeros 16)

-- ---- two contents of one length, the first with its check

-- the second has its check exactly where both leave one remainder
abbrev pub OneRemainder : Type 0
OneRemainder =
    (w : ℕ) (m : Parameters) → OfWidth w m → (c d s t : List Bool) → length c ≡ length d → s ≡ check_bits m c → length t ≡ w
    → (t ≡ check_bits m d) ↔ (remainder m.generator (c ++ s) ≡ remainder m.generator (d ++ t))

-- so the generator divides the difference of their checked bits
abbrev pub CheckedDifference : Type 0
CheckedDifference =
    (w : ℕ) (m : Parameters) → OfWidth w m → (c d : List Bool) → length c ≡ length d
    → Divides m.generator (xor_bits (checked_bits m c) (checked_bits m d))
