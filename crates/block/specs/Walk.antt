-- The walk over a line (document 01, part 3, and questions 13 to 15): a mark for every byte up to and with the end sign.
-- Assumes nothing.
use Rattle.std.specs.Prelude.{ℕ, ◌+◌, ◌-◌, Bool, cond, List, [], ◌∷◌}
use Rattle.block.specs.declared.EndSign.{EndSign}
use Rattle.block.specs.declared.EndSign.TheVariants.{Etx, Etb, Us}
use Rattle.block.specs.declared.Mark.{Mark}
use Rattle.block.specs.declared.Mark.TheVariants.{LeftOut, HeaderByte, TextByte, InnerStart, End}
use Rattle.block.specs.declared.Field.{Field}
use Rattle.block.specs.declared.Field.TheVariants.{Start, StartDle, Header, HeaderDle, Text, Clear, ClearDle}
use Rattle.block.specs.declared.Judged.{Judged}
use Rattle.block.specs.declared.Judged.TheVariants.{Is, Ends, NoStart, OutOfPlace, DleOutOfPlace}
use Rattle.block.specs.Signs.{CodeTable, Sign, soh, stx, etx, dle, syn, etb, us, other, sign_of}
use Rattle.block.specs.Characters.{character}

-- the start, left out: SOH, STX or, in methods 3 and 4, DLE STX. SYN ahead of it is left out too (document 02, card 1)
abbrev pub in_start : Bool → Sign → Judged
in_start seven soh = Is LeftOut Header
in_start seven stx = Is LeftOut Text
in_start seven etx = NoStart
in_start seven dle = cond seven NoStart (Is LeftOut StartDle)
in_start seven syn = Is LeftOut Start
in_start seven etb = NoStart
in_start seven us = NoStart
in_start seven other = NoStart

abbrev pub in_start_dle : Sign → Judged
in_start_dle soh = NoStart
in_start_dle stx = Is LeftOut Clear
in_start_dle etx = NoStart
in_start_dle dle = NoStart
in_start_dle syn = NoStart
in_start_dle etb = NoStart
in_start_dle us = NoStart
in_start_dle other = NoStart

-- in a header SOH is out of place, and DLE unless STX follows; an inner start is counted; SYN is left out.
-- Under methods 1, 2 and 7 DLE is out of place everywhere
abbrev pub in_header : Bool → Sign → Judged
in_header seven soh = OutOfPlace
in_header seven stx = Is InnerStart Text
in_header seven etx = Ends Etx
in_header seven dle = cond seven OutOfPlace (Is InnerStart HeaderDle)
in_header seven syn = Is LeftOut Header
in_header seven etb = Ends Etb
in_header seven us = Ends Us
in_header seven other = Is HeaderByte Header

abbrev pub in_header_dle : Sign → Judged
in_header_dle soh = DleOutOfPlace
in_header_dle stx = Is InnerStart Clear
in_header_dle etx = DleOutOfPlace
in_header_dle dle = DleOutOfPlace
in_header_dle syn = DleOutOfPlace
in_header_dle etb = DleOutOfPlace
in_header_dle us = DleOutOfPlace
in_header_dle other = DleOutOfPlace

-- in plain text SOH, STX and DLE are out of place; SYN is left out
abbrev pub in_text : Sign → Judged
in_text soh = OutOfPlace
in_text stx = OutOfPlace
in_text etx = Ends Etx
in_text dle = OutOfPlace
in_text syn = Is LeftOut Text
in_text etb = Ends Etb
in_text us = Ends Us
in_text other = Is TextByte Text

-- in clear text all but DLE is text, also a lone SYN; the first DLE of each pair is left out
abbrev pub in_clear : Sign → Judged
in_clear soh = Is TextByte Clear
in_clear stx = Is TextByte Clear
in_clear etx = Is TextByte Clear
in_clear dle = Is LeftOut ClearDle
in_clear syn = Is TextByte Clear
in_clear etb = Is TextByte Clear
in_clear us = Is TextByte Clear
in_clear other = Is TextByte Clear

-- behind a DLE of clear text: DLE is text, SYN is left out, an end sign ends; before anything else that DLE is out of place
abbrev pub in_clear_dle : Sign → Judged
in_clear_dle soh = DleOutOfPlace
in_clear_dle stx = DleOutOfPlace
in_clear_dle etx = Ends Etx
in_clear_dle dle = Is TextByte Clear
in_clear_dle syn = Is LeftOut Clear
in_clear_dle etb = Ends Etb
in_clear_dle us = Ends Us
in_clear_dle other = DleOutOfPlace

abbrev pub judge : Bool → Field → Sign → Judged
judge seven Start s = in_start seven s
judge seven StartDle s = in_start_dle s
judge seven Header s = in_header seven s
judge seven HeaderDle s = in_header_dle s
judge seven Text s = in_text s
judge seven Clear s = in_clear s
judge seven ClearDle s = in_clear_dle s

-- how a walk stops: at an end sign, with the field in which that stands; or with the number and place of a refusal
pub data Stop : Type 0 where
  ended : Field → EndSign → Stop
  refused : ℕ → ℕ → Stop

-- the marks of the bytes walked over, and the stop
pub record Walked : Type 0 where
  pub marks : List Mark
  pub stop : Stop

abbrev pub ahead : Mark → Walked → Walked
ahead k w = record { marks = k ∷ w.marks; stop = w.stop }

abbrev pub halt : Stop → Walked
halt s = record { marks = []; stop = s }

-- the line ends before an end sign: 13 where its start is not whole, else 15
abbrev pub cut : Field → Stop
cut Start = refused 13 0
cut StartDle = refused 13 0
cut Header = refused 15 0
cut HeaderDle = refused 15 0
cut Text = refused 15 0
cut Clear = refused 15 0
cut ClearDle = refused 15 0

-- the byte at the place `at` of field f is judged, and `go` walks on
abbrev pub onward : (Field → Walked) → Field → ℕ → Judged → Walked
onward go f at (Is k g) = ahead k (go g)
onward go f at (Ends e) = ahead End (halt (ended f e))
onward go f at NoStart = halt (refused 13 0)
onward go f at OutOfPlace = halt (refused 14 at)
onward go f at DleOutOfPlace = halt (refused 14 (at - 1))

-- the walk over what is left of a line, from the place `at` on, in field f; `seven`: methods 1, 2 and 7
abbrev pub walk : CodeTable → Bool → List ℕ → ℕ → Field → Walked
walk t seven [] at f = halt (cut f)
walk t seven (b ∷ rest) at f = onward (walk t seven rest (at + 1)) f at (judge seven f (sign_of t (character seven b)))
