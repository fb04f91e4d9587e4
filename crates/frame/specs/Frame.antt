-- The bits of a frame (document 01, part 4; 003 par. 2.2). Assumes nothing.
use Rattle.std.specs.Prelude.{ℕ, ◌*◌, Bool, List, ◌++◌, length}
use Rattle.bits.specs.Bytes.{low_bits}
use Rattle.cyclic.specs.Check.{Parameters, checked_bits, method5, method6}
use Rattle.frame.specs.declared.FrameMethod.{FrameMethod}
use Rattle.frame.specs.declared.FrameMethod.TheVariants as method
use Rattle.frame.specs.Stuffing.{stuff}

-- methods 5 and 6
abbrev pub parameters_of : FrameMethod → Parameters
parameters_of method.Cyclic16 = method5
parameters_of method.Cyclic32 = method6

-- how many bits the check has
abbrev pub width : Parameters → ℕ
width m = length m.generator

-- the most bits of a content (003 par. 2.2.6: 32,768 for method 5; document 02, card 13); the check's limit is in bytes
abbrev pub limit_bits : Parameters → ℕ
limit_bits m = 8 * m.limit

unfoldable pub flag : List Bool
flag = low_bits 8 0x7E

-- bits between two flags, a zero after each five ones in a row, also just before the closing flag
unfoldable pub enclose : List Bool → List Bool
enclose s = flag ++ (stuff 0 s ++ flag)

-- the frame of a content: content and check between two flags
unfoldable pub frame_of : Parameters → List Bool → List Bool
frame_of m content = enclose (checked_bits m content)
