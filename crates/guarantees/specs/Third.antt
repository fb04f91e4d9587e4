-- The owner's third property, sentence by sentence, over lines of methods 1 to 6, and what document 02's card 5 says of method 7.
-- Assumes nothing.
use Rattle.std.specs.Prelude.{◌≡◌, ℕ, Bool, List}
use Rattle.cyclic.specs.Check.{Parameters, method5, method6}
use Rattle.block.specs.declared.Method.{Method}
use Rattle.block.specs.declared.Method.TheVariants as method
use Rattle.block.specs.declared.Parity.{Parity}
use Rattle.block.specs.Signs.{CodeTable}
use Rattle.block.specs.Read.{Parts, taken, read_block}
use Rattle.frame.specs.Read.{read_bits, read_frame}
use Rattle.guarantees.specs.Lines.{Lines, AcceptedHasFraming, DifferWhereChecked, EqualWhereChecked, AtLeast, NoBurst, NeverOdd, AcceptedWhereApart}
use Rattle.guarantees.specs.Columns.{Counted, FourWhereApart, AtLeastWhereFew}
use Rattle.guarantees.specs.Blocks as block-lines
use Rattle.guarantees.specs.Frames as frame-lines

-- methods 1 to 7; a block call is also given the code, here by its table, and the parity setting, which methods 3 and 4 ignore
pub data AnyMethod : Type 0 where
  method_1 method_2 method_3 method_4 : CodeTable → Parity → AnyMethod
  method_5 method_6 : AnyMethod
  method_7 : CodeTable → Parity → AnyMethod

abbrev pub lines_of : AnyMethod → Lines
lines_of (method_1 t p) = block-lines.blocks t method.Parity p
lines_of (method_2 t p) = block-lines.blocks t method.Matrix p
lines_of (method_3 t p) = block-lines.blocks t method.Cyclic p
lines_of (method_4 t p) = block-lines.blocks t method.CyclicAlternative p
lines_of method_5 = frame-lines.frames method5
lines_of method_6 = frame-lines.frames method6
lines_of (method_7 t p) = block-lines.blocks t method.Diagonal p

-- a 16-bit check
abbrev pub Has16Bits : AnyMethod → Type 0
Has16Bits (method_1 t p) = ⊥
Has16Bits (method_2 t p) = ⊥
Has16Bits (method_3 t p) = Unit
Has16Bits (method_4 t p) = Unit
Has16Bits method_5 = Unit
Has16Bits method_6 = ⊥
Has16Bits (method_7 t p) = ⊥

-- "Take every two unequal lines A and B, both accepted, with one method, one length, one framing and, in methods 1 and 2, one
-- parity setting."
pub record ThirdProperty : Type 0 where
  -- accepted: the number is none of 58, 11 to 15, 52, 53, 17, 18 and 54, 31 to 33 or 35 to 37, and the line has a
  -- framing
  pub accepted_blocks : (t : CodeTable) (m : Method) (p : Parity) (line : List ℕ) (room : ℕ) → block-lines.AcceptsByNumber (read_block t m p line room)
  pub accepted_frames : (m : Parameters) (frame : List Bool) (room : ℕ) → frame-lines.AcceptsByNumber (read_bits m frame room)
  pub accepted_lent : (m : Parameters) (told : ℕ) (lent : List ℕ) (room : ℕ) → frame-lines.AcceptsByNumber (read_frame m told lent room)
  pub accepted_has_framing : (m : AnyMethod) → AcceptedHasFraming (lines_of m)
  -- with one framing each bit in which two lines differ, taken or not, is a checked bit
  pub differ_where_checked : (m : AnyMethod) → DifferWhereChecked (lines_of m)
  pub equal_where_checked : (m : AnyMethod) → EqualWhereChecked (lines_of m)
  -- "A and B differ in at least 2 bits under parity, 4 under matrix and 3 under the 32-bit frame."
  pub distance-parity : (t : CodeTable) (p : Parity) → AtLeast 2 (lines_of (method_1 t p))
  pub distance_matrix : (t : CodeTable) (p : Parity) → AtLeast 4 (lines_of (method_2 t p))
  pub distance_32 : AtLeast 3 (lines_of method_6)
  -- "Their differing bits are never one burst of at most 9 bits under matrix, 16 under a 16-bit check, 32 under the 32-bit frame."
  pub burst_matrix : (t : CodeTable) (p : Parity) → NoBurst 9 (lines_of (method_2 t p))
  pub burst_16 : (m : AnyMethod) → Has16Bits m → NoBurst 16 (lines_of m)
  pub burst_32 : NoBurst 32 (lines_of method_6)
  -- "Under a 16-bit check their number is never odd."
  pub never_odd : (m : AnyMethod) → Has16Bits m → NeverOdd (lines_of m)
  -- "Last, take every line A accepted under such a check, and every line B of A's method and framing that is A with just two
  -- checked bits changed, whichever two. B is accepted exactly when these two are 32,767 checked bits apart."
  pub accepted_where_apart : (m : AnyMethod) → Has16Bits m → AcceptedWhereApart 32767 (lines_of m)
  -- card 5: "Two unequal accepted lines of one length and framing differ in at least four bits, in exactly four only if the two changed
  -- columns are a multiple of 7 apart, so in at least six where n+1 is at most 7."
  pub distance_diagonal : (t : CodeTable) (p : Parity) → AtLeast 4 (lines_of (method_7 t p))
  pub four_diagonal : (t : CodeTable) (p : Parity) → FourWhereApart 7 (lines_of (method_7 t p))
  pub six_diagonal : (t : CodeTable) (p : Parity) → AtLeastWhereFew 6 7 (lines_of (method_7 t p))
  -- n is the counted number with which reading takes a line
  pub counted_diagonal : (t : CodeTable) (p : Parity) (line : List ℕ) (b : Parts) (room : ℕ) → read_block t method.Diagonal p line room ≡ taken b
      → Counted (lines_of (method_7 t p)) line b.counted
  -- in methods 3 and 4 the parity setting is without effect
  pub any_parity_3 : (t : CodeTable) (p q : Parity) (line : List ℕ) (room : ℕ) → read_block t method.Cyclic p line room ≡ read_block t method.Cyclic q line room
  pub any_parity_4 : (t : CodeTable) (p q : Parity) (line : List ℕ) (room : ℕ)
      → read_block t method.CyclicAlternative p line room ≡ read_block t method.CyclicAlternative q line room
