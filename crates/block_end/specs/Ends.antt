-- What the field of an end sign says of the text before it and of the shape, and the fill ahead of a start. Assumes nothing.
use Rattle.std.specs.Prelude.{ℕ, Bool, not, cond, eqb}
use Rattle.block.specs.declared.Shape.{Shape}
use Rattle.block.specs.declared.Shape.TheVariants as shape
use Rattle.block.specs.declared.Field.{Field}
use Rattle.block.specs.declared.Field.TheVariants.{Start, StartDle, Header, HeaderDle, Text, Clear, ClearDle}
use Rattle.block.specs.Signs.{CodeTable, sign_of, is_syn}
use Rattle.block.specs.Characters.{character}

-- how many signs stand before a text, STX or DLE STX, and as many after it, DLE and the end sign; 0 where there is no text
abbrev pub text_signs : Field → ℕ
text_signs Start = 0
text_signs StartDle = 0
text_signs Header = 0
text_signs HeaderDle = 0
text_signs Text = 1
text_signs Clear = 0
text_signs ClearDle = 2

-- the shape of a line with so many signs before its text, and with an inner start or without
unfoldable pub shape_by : ℕ → Bool → Shape
shape_by signs has_inner =
    cond (eqb signs 0) shape.Header
    (cond has_inner (cond (eqb signs 1) shape.HeaderText shape.HeaderClearText) (cond (eqb signs 1) shape.Text shape.ClearText))

-- the same of its inner start's place, 0 where it has none
unfoldable pub shape_at : ℕ → ℕ → Shape
shape_at signs inner = shape_by signs (not (eqb inner 0))

unfoldable pub is_fill : CodeTable → Bool → ℕ → Bool
is_fill t seven b = is_syn (sign_of t (character seven b))
