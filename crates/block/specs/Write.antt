-- Writing a block: questions 58, 1, 4, 2, 3, 5, 6 in turn, and the line (document 01, part 3 and "Questions before a line is taken";
-- document 02, card 7). Assumes nothing.
use Rattle.std.specs.Prelude.{ℕ, ◌+◌, Bool, true, false, cond, not, ◌&&◌, ◌||◌, List, [], ◌∷◌, ◌++◌, map, leb, ltb, eqb, length, drop}
use Rattle.bits.specs.Bytes.{pack}
use Rattle.block.specs.declared.Method.{Method}
use Rattle.block.specs.declared.Parity.{Parity}
use Rattle.block.specs.declared.Shape.{Shape}
use Rattle.block.specs.declared.Shape.TheVariants as shape
use Rattle.block.specs.declared.EndSign.{EndSign}
use Rattle.block.specs.Signs.{CodeTable, Sign, soh, stx, etx, dle, syn, etb, us, other, sign_of, end_byte}
use Rattle.block.specs.Characters.{is_seven, carries, sent}
use Rattle.block.specs.Check.{check_of}
use Rattle.block.specs.Limits.{counted_limit}

-- ---- shapes

abbrev pub is_clear : Shape → Bool
is_clear shape.Header = false
is_clear shape.Text = false
is_clear shape.HeaderText = false
is_clear shape.ClearText = true
is_clear shape.HeaderClearText = true

abbrev pub has_header : Shape → Bool
has_header shape.Header = true
has_header shape.Text = false
has_header shape.HeaderText = true
has_header shape.ClearText = false
has_header shape.HeaderClearText = true

abbrev pub has_text : Shape → Bool
has_text shape.Header = false
has_text shape.Text = true
has_text shape.HeaderText = true
has_text shape.ClearText = true
has_text shape.HeaderClearText = true

-- the signs before the text: STX, or DLE STX before clear text
abbrev pub text_start : CodeTable → Shape → List ℕ
text_start t shape.Header = []
text_start t shape.Text = t.STX ∷ []
text_start t shape.HeaderText = t.STX ∷ []
text_start t shape.ClearText = t.DLE ∷ t.STX ∷ []
text_start t shape.HeaderClearText = t.DLE ∷ t.STX ∷ []

-- where there is a header the start is SOH, and the signs before the text are an inner start, which is counted
abbrev pub start_signs : CodeTable → Shape → List ℕ
start_signs t s = cond (has_header s) (t.SOH ∷ []) (text_start t s)

abbrev pub inner_signs : CodeTable → Shape → List ℕ
inner_signs t s = cond (has_header s) (text_start t s) []

-- ---- questions

-- a character that is no sign; in methods 1, 2 and 7 it is below 80
abbrev pub is_other : Sign → Bool
is_other soh = false
is_other stx = false
is_other etx = false
is_other dle = false
is_other syn = false
is_other etb = false
is_other us = false
is_other other = true

unfoldable pub is_free : CodeTable → Bool → ℕ → Bool
is_free t seven b = is_other (sign_of t b) && (not seven || ltb b 0x80)

pub data WriteAnswer : Type 0 where
  written : List ℕ → WriteAnswer
  refusal : ℕ → ℕ → WriteAnswer

abbrev pub ask : Bool → ℕ → ℕ → WriteAnswer → WriteAnswer
ask holds number value next = cond holds next (refusal number value)

-- the question `number` of every byte of a part, from the place `at` on
abbrev pub ask_free : CodeTable → Bool → ℕ → List ℕ → ℕ → WriteAnswer → WriteAnswer
ask_free t seven number [] at next = next
ask_free t seven number (b ∷ rest) at next = ask (is_free t seven b) number at (ask_free t seven number rest (at + 1) next)

abbrev pub is_empty : List ℕ → Bool
is_empty bs = eqb (length bs) 0

-- ---- the line

-- in clear text each DLE is sent twice
abbrev pub doubled : Bool → ℕ → List ℕ → List ℕ
doubled true b bs = b ∷ b ∷ bs
doubled false b bs = b ∷ bs

unfoldable pub escaped : CodeTable → List ℕ → List ℕ
escaped t [] = []
escaped t (b ∷ bs) = doubled (eqb b t.DLE) b (escaped t bs)

-- the counted bytes: header, inner start, text and end sign, with their parity bits
unfoldable pub counted_bytes : CodeTable → Method → Parity → Shape → EndSign → List ℕ → List ℕ → List ℕ
counted_bytes t m p s e head body = map (sent (is_seven m) p) (head ++ (inner_signs t s ++ (body ++ end_byte t e ∷ [])))

unfoldable pub counted_length : CodeTable → Shape → List ℕ → List ℕ → ℕ
counted_length t s head body = length head + length (inner_signs t s) + length body + 1

-- the line before its check: in clear text, DLE before the end sign
unfoldable pub framed_bytes : CodeTable → Method → Parity → Shape → EndSign → List ℕ → List ℕ → List ℕ
framed_bytes t m p s e head body =
    map (sent (is_seven m) p)
    (start_signs t s ++ (head ++ (inner_signs t s ++ cond (is_clear s) (escaped t body ++ t.DLE ∷ end_byte t e ∷ []) (body ++ end_byte t e ∷ []))))

unfoldable pub line_of : CodeTable → Method → Parity → Shape → EndSign → List ℕ → List ℕ → List ℕ
line_of t m p s e head body = framed_bytes t m p s e head body ++ pack (check_of m p (counted_bytes t m p s e head body))

-- does the method carry the code? 58. The shape? 1. Is a part that the shape lacks empty? 4. Is the header free of signs? 2. Is plain text? 3.
-- Is the count at most 4,096? 5. Does the output hold the line? 6
unfoldable pub write_block : CodeTable → Method → Parity → Shape → EndSign → List ℕ → List ℕ → ℕ → WriteAnswer
write_block t m p s e head body room =
    ask (carries t m) 58 0
    (ask (not (is_seven m && is_clear s)) 1 0
    (ask ((has_header s || is_empty head) && (has_text s || is_empty body)) 4 0
    (ask_free t (is_seven m) 2 head 0
    (ask_free t (is_seven m) 3 (cond (is_clear s) [] body) 0
    (ask (leb (counted_length t s head body) counted_limit) 5 0
    (ask (leb (length (line_of t m p s e head body)) room) 6 (length (line_of t m p s e head body))
    (written (line_of t m p s e head body))))))))

-- the output afterwards: the line, then what stood there; after a refusal all of what stood there
unfoldable pub write_output : WriteAnswer → List ℕ → List ℕ
write_output (written line) out = line ++ drop (length line) out
write_output (refusal number value) out = out
