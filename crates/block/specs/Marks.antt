-- What is read off the marks of a line (document 01, parts 3 and 4). Assumes nothing.
use Rattle.std.specs.Prelude.{ℕ, ◌+◌, Bool, true, false, cond, not, List, [], ◌∷◌, map, length, drop}
use Rattle.bits.specs.Differences.{cons_if}
use Rattle.block.specs.declared.Shape.{Shape}
use Rattle.block.specs.declared.Shape.TheVariants as shape
use Rattle.block.specs.declared.Mark.{Mark}
use Rattle.block.specs.declared.Mark.TheVariants.{LeftOut, HeaderByte, TextByte, InnerStart, End}
use Rattle.block.specs.declared.Field.{Field}
use Rattle.block.specs.declared.Field.TheVariants.{Start, StartDle, Header, HeaderDle, Text, Clear, ClearDle}
use Rattle.block.specs.Characters.{character}

abbrev pub is_counted : Mark → Bool
is_counted LeftOut = false
is_counted HeaderByte = true
is_counted TextByte = true
is_counted InnerStart = true
is_counted End = true

abbrev pub is_header : Mark → Bool
is_header LeftOut = false
is_header HeaderByte = true
is_header TextByte = false
is_header InnerStart = false
is_header End = false

abbrev pub is_text : Mark → Bool
is_text LeftOut = false
is_text HeaderByte = false
is_text TextByte = true
is_text InnerStart = false
is_text End = false

abbrev pub is_inner : Mark → Bool
is_inner LeftOut = false
is_inner HeaderByte = false
is_inner TextByte = false
is_inner InnerStart = true
is_inner End = false

-- the bytes of a line whose mark a test takes
abbrev pub sift : (Mark → Bool) → List Mark → List ℕ → List ℕ
sift is [] line = []
sift is (k ∷ ks) [] = []
sift is (k ∷ ks) (b ∷ line) = cons_if (is k) b (sift is ks line)

-- the counted bytes, as they stand on the line
abbrev pub counted : List Mark → List ℕ → List ℕ
counted ks line = sift is_counted ks line

-- header and text, as characters
abbrev pub header : Bool → List Mark → List ℕ → List ℕ
header seven ks line = map (character seven) (sift is_header ks line)

abbrev pub text : Bool → List Mark → List ℕ → List ℕ
text seven ks line = map (character seven) (sift is_text ks line)

-- what stands after the end sign
abbrev pub check_bytes : List Mark → List ℕ → List ℕ
check_bytes ks line = drop (length ks) line

-- the framing: places and values of the bytes that are left out, from the place `at` on
pub record LeftOutByte : Type 0 where
  pub place : ℕ
  pub value : ℕ

abbrev pub left_out_if : Bool → LeftOutByte → List LeftOutByte → List LeftOutByte
left_out_if true o os = o ∷ os
left_out_if false o os = os

abbrev pub left_out : ℕ → List Mark → List ℕ → List LeftOutByte
left_out at [] line = []
left_out at (k ∷ ks) [] = []
left_out at (k ∷ ks) (b ∷ line) = left_out_if (not (is_counted k)) (record { place = at; value = b }) (left_out (at + 1) ks line)

-- whether there was an inner start
abbrev pub has_inner : List Mark → Bool
has_inner [] = false
has_inner (k ∷ ks) = cond (is_inner k) true (has_inner ks)

-- the shape, by the field in which the end sign stands: a header, text, or behind a DLE of clear text. No other has one
abbrev pub shape_of : Bool → Field → Shape
shape_of inner Start = shape.Header
shape_of inner StartDle = shape.Header
shape_of inner Header = shape.Header
shape_of inner HeaderDle = shape.Header
shape_of inner Text = cond inner shape.HeaderText shape.Text
shape_of inner Clear = shape.Header
shape_of inner ClearDle = cond inner shape.HeaderClearText shape.ClearText
