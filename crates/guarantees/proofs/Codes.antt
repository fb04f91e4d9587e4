-- Under KOI-7 the rules are those with document 01's values written in; 58 comes before all others. Assumes nothing.
use mathlib.Core.Path.{◌≡◌, refl, ap, subst}
use Prim.Native.Nat.{ℕ, ◌+◌}
use native.Mathlib.Omega.{arith}
use mathlib.Core.Bool.{Bool, false, cond}
use mathlib.Core.List.{List, [], ◌∷◌}
use lib.Dec.{eqb, leb}
use lib.ListN.{length}
use Rattle.block.specs.declared.Method.{Method}
use Rattle.block.specs.declared.Parity.{Parity}
use Rattle.block.specs.declared.Shape.{Shape}
use Rattle.block.specs.declared.Shape.TheVariants as shape
use Rattle.block.specs.declared.EndSign.{EndSign}
use Rattle.block.specs.declared.EndSign.TheVariants.{Etx, Etb, Us}
use Rattle.block.specs.declared.Field.{Field}
use Rattle.block.specs.declared.Field.TheVariants.{Start}
use Rattle.block.specs.Signs.{CodeTable, koi7, sign_of, end_byte}
use Rattle.block.specs.Characters.{is_seven, carries, character}
use Rattle.block.specs.declared.Judged.{Judged}
use Rattle.block.specs.declared.Judged.TheVariants.{Is, Ends, NoStart, OutOfPlace, DleOutOfPlace}
use Rattle.block.specs.Walk.{Walked, ahead, onward, judge, walk}
use Rattle.block.specs.Limits.{line_limit}
use Rattle.block.specs.Read as reads
use Rattle.block.specs.Write as writes
use Rattle.guarantees.specs.Blocks.{Accepted, Accepts}
use Rattle.guarantees.specs.Codes.{sign_in_koi7, is_free_in_koi7, walk_in_koi7, framed_in_koi7, end_in_koi7, text_start_in_koi7, start_in_koi7, inner_in_koi7, ask_free_in_koi7, escaped_in_koi7, line_in_koi7, write_in_koi7, KeepsAnswers, CodeNotCarried}

-- ---- reading

onward_same : (go before : Field → Walked) → ((g : Field) → go g ≡ before g) → (f : Field) (at : ℕ) (j : Judged) → onward go f at j ≡ onward before f at j
onward_same go before h f at (Is k g) = ap (ahead k) (h g)
onward_same go before h f at (Ends e) = refl
onward_same go before h f at NoStart = refl
onward_same go before h f at OutOfPlace = refl
onward_same go before h f at DleOutOfPlace = refl

walk_same : (seven : Bool) (line : List ℕ) (at : ℕ) (f : Field) → walk koi7 seven line at f ≡ walk_in_koi7 seven line at f
unfolding sign_of
walk_same seven [] at f = refl
walk_same seven (b ∷ rest) at f =
    onward_same (walk koi7 seven rest (at + 1)) (walk_in_koi7 seven rest (at + 1)) (walk_same seven rest (at + 1)) f at
    (judge seven f (sign_in_koi7 (character seven b)))

framed_same : (m : Method) (p : Parity) (line : List ℕ) → reads.framed koi7 m p line ≡ framed_in_koi7 m p line
unfolding reads.framed
framed_same m p line =
    ap
    (λ w. reads.ask (leb (length line) line_limit) 11 0 (cond (is_seven m) (reads.ask_parities p line 0 (reads.ask_walk m line w)) (reads.ask_walk m line w)))
    (walk_same (is_seven m) line 0 Start)

-- ---- writing

text_start_same : (s : Shape) → writes.text_start koi7 s ≡ text_start_in_koi7 s
text_start_same shape.Header = refl
text_start_same shape.Text = refl
text_start_same shape.HeaderText = refl
text_start_same shape.ClearText = refl
text_start_same shape.HeaderClearText = refl

start_same : (s : Shape) → writes.start_signs koi7 s ≡ start_in_koi7 s
start_same s = ap (cond (writes.has_header s) (0x01 ∷ [])) (text_start_same s)

inner_same : (s : Shape) → writes.inner_signs koi7 s ≡ inner_in_koi7 s
inner_same s = ap (λ l. cond (writes.has_header s) l []) (text_start_same s)

end_same : (e : EndSign) → end_byte koi7 e ≡ end_in_koi7 e
end_same Etx = refl
end_same Etb = refl
end_same Us = refl

escaped_same : (bs : List ℕ) → writes.escaped koi7 bs ≡ escaped_in_koi7 bs
unfolding writes.escaped
escaped_same [] = refl
escaped_same (b ∷ bs) = ap (writes.doubled (eqb b 0x10) b) (escaped_same bs)

ask_free_same : (seven : Bool) (number : ℕ) (bs : List ℕ) (at : ℕ) (next : writes.WriteAnswer)
    → writes.ask_free koi7 seven number bs at next ≡ ask_free_in_koi7 seven number bs at next
unfolding writes.is_free sign_of
ask_free_same seven number [] at next = refl
ask_free_same seven number (b ∷ bs) at next =
    ap (writes.ask (is_free_in_koi7 seven b) number at) (ask_free_same seven number bs (at + 1) next)

module _ (m : Method) (p : Parity) (s : Shape) (e : EndSign) (head body : List ℕ) where
  line_same : writes.line_of koi7 m p s e head body ≡ line_in_koi7 m p s e head body
  unfolding writes.line_of writes.framed_bytes writes.counted_bytes
  line_same = rw (start_same s, inner_same s, end_same e, escaped_same body) refl

  write_same : (room : ℕ) → writes.write_block koi7 m p s e head body room ≡ write_in_koi7 m p s e head body room
  unfolding writes.write_block writes.counted_length
  write_same room = rw (ask_free_same (is_seven m) 2 head 0, ask_free_same (is_seven m) 3 (cond (writes.is_clear s) [] body) 0, line_same, inner_same s) refl

pub keeps_answers : KeepsAnswers
unfolding reads.read_block reads.framing_of
keeps_answers =
    record {
      same_reading = λ m p line room. ap (reads.ask_check m p line room) (framed_same m p line);
      same_framing = λ m p line. ap (reads.framing_by line) (framed_same m p line);
      same_writing = write_same;
    }

-- ---- 58

module _ (t : CodeTable) (m : Method) (p : Parity) (h : carries t m ≡ false) where
  unframed_58 : (line : List ℕ) → reads.framed t m p line ≡ reads.unframed 58 0
  unfolding reads.framed
  unframed_58 line = rw h refl

  read_58 : (line : List ℕ) (room : ℕ) → reads.read_block t m p line room ≡ reads.refusal 58 0
  unfolding reads.read_block
  read_58 line room = ap (reads.ask_check m p line room) (unframed_58 line)

  written_58 : (s : Shape) (e : EndSign) (head body : List ℕ) (room : ℕ) → writes.write_block t m p s e head body room ≡ writes.refusal 58 0
  unfolding writes.write_block
  written_58 s e head body room = rw h refl

  not_accepted : (line : List ℕ) → Accepted t m p line → ⊥
  not_accepted line a = let n : Accepts (reads.refusal 58 0) = subst Accepts (read_58 line 0) (a 0) in omega arith

  no_framing : (line : List ℕ) → reads.framing_of t m p line ≡ reads.none
  unfolding reads.framing_of
  no_framing line = ap (reads.framing_by line) (unframed_58 line)

pub code_not_carried : CodeNotCarried
code_not_carried =
    record {
      under_dkoi = λ m. refl;
      under_koi7 = λ m. refl;
      read_58 = read_58;
      written_58 = written_58;
      not_accepted = not_accepted;
      no_framing = no_framing;
    }
