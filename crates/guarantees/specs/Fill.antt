-- A line without its fill signs (document 01, part 3; document 02, card 1): SYN ahead of the start, in header and in plain text,
-- DLE SYN in clear text. Assumes nothing.
use Rattle.std.specs.Prelude.{ℕ, Bool, false, not, ◌&&◌, List, [], ◌∷◌}
use Rattle.bits.specs.Differences.{cons_if}
use Rattle.block.specs.declared.Method.{Method}
use Rattle.block.specs.declared.Field.{Field}
use Rattle.block.specs.declared.Field.TheVariants.{Start, StartDle, Header, HeaderDle, Text, Clear, ClearDle}
use Rattle.block.specs.declared.Judged.{Judged}
use Rattle.block.specs.declared.Judged.TheVariants.{Is, Ends, NoStart, OutOfPlace, DleOutOfPlace}
use Rattle.block.specs.Signs.{CodeTable, Sign, other, sign_of, is_syn, is_dle}
use Rattle.block.specs.Characters.{is_seven, character}
use Rattle.block.specs.Walk.{judge}

-- whether a byte is a fill sign, by the field in which it stands, its sign and the sign after it
abbrev pub is_fill : Field → Sign → Sign → Bool
is_fill Start s next = is_syn s
is_fill StartDle s next = false
is_fill Header s next = is_syn s
is_fill HeaderDle s next = false
is_fill Text s next = is_syn s
is_fill Clear s next = is_dle s && is_syn next
is_fill ClearDle s next = is_syn s

-- the sign of the first byte
abbrev pub first_sign : CodeTable → Bool → List ℕ → Sign
first_sign t seven [] = other
first_sign t seven (b ∷ rest) = sign_of t (character seven b)

-- behind a byte that was judged: up to the end sign `go` walks on, behind it nothing is fill
abbrev pub unfilled_behind : (Field → List ℕ) → List ℕ → Judged → List ℕ
unfilled_behind go rest (Is k g) = go g
unfilled_behind go rest (Ends e) = rest
unfilled_behind go rest NoStart = rest
unfilled_behind go rest OutOfPlace = rest
unfilled_behind go rest DleOutOfPlace = rest

-- what is left of a line, from the field f on
abbrev pub unfilled : CodeTable → Bool → List ℕ → Field → List ℕ
unfilled t seven [] f = []
unfilled t seven (b ∷ rest) f =
    cons_if (not (is_fill f (sign_of t (character seven b)) (first_sign t seven rest))) b
    (unfilled_behind (unfilled t seven rest) rest (judge seven f (sign_of t (character seven b))))

unfoldable pub without_fill : CodeTable → Method → List ℕ → List ℕ
without_fill t m line = unfilled t (is_seven m) line Start
