-- The cyclic checks of 003, appendices 1 to 3, over a content of any number of bits. Assumes nothing.
use Rattle.std.specs.Prelude.{◌≡◌, ◌↔◌, ℕ, Bool, true, false, List, ◌++◌, length}
use Rattle.bits.specs.Strings.{xor_bits, zeros, ones, invert}
use Rattle.bits.specs.Bytes.{low_bits}
use Rattle.division.specs.Division.{remainder}
use Rattle.division.specs.Generators.{ccitt16, ibm16, ieee32}

-- what a method names (document 01, part 2): the generator, by its low part of w bits; L, the w bits from which the division
-- starts; whether the remainder is inverted; and how many bytes it checks at most
pub record Parameters : Type 0 where
  pub generator : List Bool
  pub start : List Bool
  pub inverted : Bool
  pub limit : ℕ

-- formulas (4), (8), (10), (14), (16), (19): the remainder of x^w · C + x^k · L, where C has k bits
unfoldable pub formula : Parameters → List Bool → List Bool
formula m c = remainder m.generator (xor_bits (c ++ zeros (length m.generator)) (m.start ++ zeros (length c)))

abbrev pub invert_if : Bool → List Bool → List Bool
invert_if true r = invert r
invert_if false r = r

-- formulas (6), (12), (17): the check of a content, in the order sent
unfoldable pub check_bits : Parameters → List Bool → List Bool
check_bits m c = invert_if m.inverted (formula m c)

-- document 01, part 4, "checked bits": the content, then its check, in the order sent
unfoldable pub checked_bits : Parameters → List Bool → List Bool
checked_bits m c = c ++ check_bits m c

-- appendix 1, for blocks; par. 2.1.9
unfoldable pub method3 : Parameters
method3 = record { generator = ccitt16; start = ones 16; inverted = true; limit = 4096 }

-- appendix 3: L is left out, the remainder is not inverted; par. 2.1.9
unfoldable pub method4 : Parameters
method4 = record { generator = ibm16; start = zeros 16; inverted = false; limit = 4096 }

-- appendix 1, for frames; par. 2.2.6 limits them to 32,768 bits
unfoldable pub method5 : Parameters
method5 = record { generator = ccitt16; start = ones 16; inverted = true; limit = 4096 }

-- appendix 2; document 01, part 4, limits it to 65,536 bytes
unfoldable pub method6 : Parameters
method6 = record { generator = ieee32; start = ones 32; inverted = true; limit = 65536 }

-- what the constants of a method's type are, and the register of a new check
pub record Constants (m : Parameters) (register width polynomial start limit : ℕ) : Type 0 where
  pub register_start : register ≡ start
  pub width_is : width ≡ length m.generator
  pub polynomial_is : low_bits width polynomial ≡ m.generator
  pub start_is : low_bits width start ≡ m.start
  pub limit_is : limit ≡ m.limit

-- a receiver, which takes content and check together through the formula, finds this remainder if and only if the check is the rule's
abbrev pub Receives : Parameters → ℕ → List Bool → Type 0
Receives m w residue = (c s : List Bool) → length s ≡ w → (formula m (c ++ s) ≡ residue) ↔ (s ≡ check_bits m c)
