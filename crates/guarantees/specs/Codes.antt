-- The code (document 02, card 7): lines under KOI-7 keep their answers, and a line with 58 is not accepted and has no framing.
-- Assumes nothing.
use Rattle.std.specs.Prelude.{◌≡◌, ℕ, ◌+◌, Bool, true, false, cond, not, ◌&&◌, ◌||◌, List, [], ◌∷◌, ◌++◌, map, leb, ltb, eqb, length}
use Rattle.bits.specs.Bytes.{pack}
use Rattle.block.specs.declared.Method.{Method}
use Rattle.block.specs.declared.Parity.{Parity}
use Rattle.block.specs.declared.Shape.{Shape}
use Rattle.block.specs.declared.Shape.TheVariants as shape
use Rattle.block.specs.declared.EndSign.{EndSign}
use Rattle.block.specs.declared.EndSign.TheVariants.{Etx, Etb, Us}
use Rattle.block.specs.declared.Field.{Field}
use Rattle.block.specs.declared.Field.TheVariants.{Start}
use Rattle.block.specs.Signs.{CodeTable, koi7, dkoi, Sign, soh, stx, etx, dle, syn, etb, us, other}
use Rattle.block.specs.Characters.{is_seven, carries, character, sent}
use Rattle.block.specs.Walk.{Walked, halt, cut, onward, judge}
use Rattle.block.specs.Check.{check_of}
use Rattle.block.specs.Limits.{counted_limit, line_limit}
use Rattle.block.specs.Read as reads
use Rattle.block.specs.Write as writes
use Rattle.guarantees.specs.Blocks.{Accepted}

-- ---- the rules before the card, with document 01's seven values written in

abbrev pub sign_in_koi7 : ℕ → Sign
sign_in_koi7 b =
    cond (eqb b 0x01) soh
    (cond (eqb b 0x02) stx
    (cond (eqb b 0x03) etx
    (cond (eqb b 0x10) dle
    (cond (eqb b 0x16) syn
    (cond (eqb b 0x17) etb
    (cond (eqb b 0x1F) us other))))))

abbrev pub walk_in_koi7 : Bool → List ℕ → ℕ → Field → Walked
walk_in_koi7 seven [] at f = halt (cut f)
walk_in_koi7 seven (b ∷ rest) at f = onward (walk_in_koi7 seven rest (at + 1)) f at (judge seven f (sign_in_koi7 (character seven b)))

abbrev pub framed_in_koi7 : Method → Parity → List ℕ → reads.Framed
framed_in_koi7 m p line =
    reads.ask (leb (length line) line_limit) 11 0
    (cond (is_seven m) (reads.ask_parities p line 0 (reads.ask_walk m line (walk_in_koi7 (is_seven m) line 0 Start)))
    (reads.ask_walk m line (walk_in_koi7 (is_seven m) line 0 Start)))

abbrev pub framing_in_koi7 : Method → Parity → List ℕ → reads.Framing
framing_in_koi7 m p line = reads.framing_by line (framed_in_koi7 m p line)

abbrev pub read_in_koi7 : Method → Parity → List ℕ → ℕ → reads.ReadAnswer
read_in_koi7 m p line room = reads.ask_check m p line room (framed_in_koi7 m p line)

abbrev pub end_in_koi7 : EndSign → ℕ
end_in_koi7 Etx = 0x03
end_in_koi7 Etb = 0x17
end_in_koi7 Us = 0x1F

abbrev pub text_start_in_koi7 : Shape → List ℕ
text_start_in_koi7 shape.Header = []
text_start_in_koi7 shape.Text = 0x02 ∷ []
text_start_in_koi7 shape.HeaderText = 0x02 ∷ []
text_start_in_koi7 shape.ClearText = 0x10 ∷ 0x02 ∷ []
text_start_in_koi7 shape.HeaderClearText = 0x10 ∷ 0x02 ∷ []

abbrev pub start_in_koi7 : Shape → List ℕ
start_in_koi7 s = cond (writes.has_header s) (0x01 ∷ []) (text_start_in_koi7 s)

abbrev pub inner_in_koi7 : Shape → List ℕ
inner_in_koi7 s = cond (writes.has_header s) (text_start_in_koi7 s) []

abbrev pub is_free_in_koi7 : Bool → ℕ → Bool
is_free_in_koi7 seven b = writes.is_other (sign_in_koi7 b) && (not seven || ltb b 0x80)

abbrev pub ask_free_in_koi7 : Bool → ℕ → List ℕ → ℕ → writes.WriteAnswer → writes.WriteAnswer
ask_free_in_koi7 seven number [] at next = next
ask_free_in_koi7 seven number (b ∷ rest) at next =
    writes.ask (is_free_in_koi7 seven b) number at (ask_free_in_koi7 seven number rest (at + 1) next)

abbrev pub escaped_in_koi7 : List ℕ → List ℕ
escaped_in_koi7 [] = []
escaped_in_koi7 (b ∷ bs) = writes.doubled (eqb b 0x10) b (escaped_in_koi7 bs)

abbrev pub counted_in_koi7 : Method → Parity → Shape → EndSign → List ℕ → List ℕ → List ℕ
counted_in_koi7 m p s e head body = map (sent (is_seven m) p) (head ++ (inner_in_koi7 s ++ (body ++ end_in_koi7 e ∷ [])))

abbrev pub line_in_koi7 : Method → Parity → Shape → EndSign → List ℕ → List ℕ → List ℕ
line_in_koi7 m p s e head body =
    map (sent (is_seven m) p)
    (start_in_koi7 s
    ++ (head
    ++ (inner_in_koi7 s
    ++ cond (writes.is_clear s) (escaped_in_koi7 body ++ 0x10 ∷ end_in_koi7 e ∷ []) (body ++ end_in_koi7 e ∷ []))))
    ++ pack (check_of m p (counted_in_koi7 m p s e head body))

abbrev pub write_in_koi7 : Method → Parity → Shape → EndSign → List ℕ → List ℕ → ℕ → writes.WriteAnswer
write_in_koi7 m p s e head body room =
    writes.ask (not (is_seven m && writes.is_clear s)) 1 0
    (writes.ask ((writes.has_header s || writes.is_empty head) && (writes.has_text s || writes.is_empty body)) 4 0
    (ask_free_in_koi7 (is_seven m) 2 head 0
    (ask_free_in_koi7 (is_seven m) 3 (cond (writes.is_clear s) [] body) 0
    (writes.ask (leb (length head + length (inner_in_koi7 s) + length body + 1) counted_limit) 5 0
    (writes.ask (leb (length (line_in_koi7 m p s e head body)) room) 6 (length (line_in_koi7 m p s e head body))
    (writes.written (line_in_koi7 m p s e head body)))))))

-- "Lines under KOI-7 keep their answers", their framings too, and so does writing
pub record KeepsAnswers : Type 0 where
  pub same_reading : (m : Method) (p : Parity) (line : List ℕ) (room : ℕ) → reads.read_block koi7 m p line room ≡ read_in_koi7 m p line room
  pub same_framing : (m : Method) (p : Parity) (line : List ℕ) → reads.framing_of koi7 m p line ≡ framing_in_koi7 m p line
  pub same_writing : (m : Method) (p : Parity) (s : Shape) (e : EndSign) (head body : List ℕ) (room : ℕ)
      → writes.write_block koi7 m p s e head body room ≡ write_in_koi7 m p s e head body room

-- "DKOI with method 1, 2 or 7; asked before all others of a block, so a line with it is not accepted and has no framing"
pub record CodeNotCarried : Type 0 where
  -- which they are: no other method under DKOI, and none under KOI-7
  pub under_dkoi : (m : Method) → carries dkoi m ≡ not (is_seven m)
  pub under_koi7 : (m : Method) → carries koi7 m ≡ true
  -- of any table that a method does not carry
  pub read_58 : (t : CodeTable) (m : Method) (p : Parity) → carries t m ≡ false → (line : List ℕ) (room : ℕ)
      → reads.read_block t m p line room ≡ reads.refusal 58 0
  pub written_58 : (t : CodeTable) (m : Method) (p : Parity) → carries t m ≡ false → (s : Shape) (e : EndSign) (head body : List ℕ) (room : ℕ)
      → writes.write_block t m p s e head body room ≡ writes.refusal 58 0
  pub not_accepted : (t : CodeTable) (m : Method) (p : Parity) → carries t m ≡ false → (line : List ℕ) → Accepted t m p line → ⊥
  pub no_framing : (t : CodeTable) (m : Method) (p : Parity) → carries t m ≡ false → (line : List ℕ) → reads.framing_of t m p line ≡ reads.none
