-- Beyond the owner's sentences: how many wrong bits a line cannot hide, by its length. Under a 16-bit check of fewer than 32,768 checked
-- bits that is `distance_16` of Beyond (crate guarantees). Assumes nothing.
use Rattle.guarantees.specs.Lines.{AtLeast}
use Rattle.guarantees.specs.Beyond.{AtLeastBelow}
use Rattle.guarantees.specs.Third.{AnyMethod, method_5, method_6, lines_of, Has16Bits}
use Rattle.distances.specs.Met.{MetAt}

pub record DistancesByLength : Type 0 where
  -- the 32-bit frame: at least 4 where fewer than 91,640 bits are checked, and two of 3,008 differ in just 4
  pub distance_32 : AtLeastBelow 4 91640 (lines_of method_6)
  pub four_32 : MetAt 4 3008 (lines_of method_6)
  -- two of 91,640 differ in just 3
  pub three_32 : MetAt 3 91640 (lines_of method_6)
  -- a 16-bit check: at least 2 at any length, and two of 32,768 checked bits differ in just 2
  pub any_length_16 : (m : AnyMethod) → Has16Bits m → AtLeast 2 (lines_of m)
  pub two_16 : MetAt 2 32768 (lines_of method_5)
  -- so neither holds of one checked bit more, nor with one bit more
  pub no_longer_32 : AtLeastBelow 4 91641 (lines_of method_6) → ⊥
  pub no_more_32 : AtLeastBelow 5 91640 (lines_of method_6) → ⊥
  pub no_longer_16 : AtLeastBelow 4 32769 (lines_of method_5) → ⊥
  pub no_more_16 : AtLeast 3 (lines_of method_5) → ⊥
