-- Reading a block: questions 58, 11 to 15, 52, 53, 17, 18, 54 and 19 in turn (document 01, "Questions before a line is taken";
-- document 02, cards 3, 5 and 7). Assumes nothing.
use Rattle.std.specs.Prelude.{ℕ, ◌+◌, Bool, true, false, cond, List, [], ◌∷◌, ◌++◌, leb, length, take, drop}
use Rattle.bits.specs.Strings.{same}
use Rattle.bits.specs.Bytes.{bits_of}
use Rattle.block.specs.declared.Method.{Method}
use Rattle.block.specs.declared.Method.TheVariants as method
use Rattle.block.specs.declared.Parity.{Parity}
use Rattle.block.specs.declared.Shape.{Shape}
use Rattle.block.specs.declared.EndSign.{EndSign}
use Rattle.block.specs.declared.Mark.{Mark}
use Rattle.block.specs.declared.Field.{Field}
use Rattle.block.specs.declared.Field.TheVariants.{Start}
use Rattle.block.specs.Signs.{CodeTable}
use Rattle.block.specs.Characters.{is_seven, carries, parity_right}
use Rattle.block.specs.Walk.{Stop, ended, refused, Walked, walk}
use Rattle.block.specs.Marks.{counted, header, text, check_bytes, left_out, LeftOutByte, has_inner, shape_of}
use Rattle.block.specs.Check.{check_of, check_length}
use Rattle.block.specs.Limits.{counted_limit, line_limit}

-- the marks of a line with the field and kind of its end sign; or the number and value of a refusal
pub data Framed : Type 0 where
  found : List Mark → Field → EndSign → Framed
  unframed : ℕ → ℕ → Framed

-- a question: where its answer is no, the refusal; else what follows
abbrev pub ask : Bool → ℕ → ℕ → Framed → Framed
ask holds number value next = cond holds next (unframed number value)

-- 12 of every byte, from the place `at` on
abbrev pub ask_parities : Parity → List ℕ → ℕ → Framed → Framed
ask_parities p [] at next = next
ask_parities p (b ∷ rest) at next = ask (parity_right p b) 12 at (ask_parities p rest (at + 1) next)

-- 13 to 15 are the walk's; 52, 53 and 17 follow: fewer bytes behind the end sign than the check has, or more
abbrev pub ask_end : Method → List ℕ → List Mark → Stop → Framed
ask_end m line ks (refused number value) = unframed number value
ask_end m line ks (ended f e) =
    ask (leb (length ks + check_length m) (length line)) 52 (length ks)
    (ask (leb (length line) (length ks + check_length m)) 53 (length ks)
    (ask (leb (length (counted ks line)) counted_limit) 17 0
    (found ks f e)))

abbrev pub ask_walk : Method → List ℕ → Walked → Framed
ask_walk m line w = ask_end m line w.marks w.stop

-- 58, 11 to 15, 52, 53 and 17
unfoldable pub framed : CodeTable → Method → Parity → List ℕ → Framed
framed t m p line =
    ask (carries t m) 58 0
    (ask (leb (length line) line_limit) 11 0
    (cond (is_seven m) (ask_parities p line 0 (ask_walk m line (walk t (is_seven m) line 0 Start))) (ask_walk m line (walk t (is_seven m) line 0 Start))))

-- a line has a framing where all of these are passed
pub data Framing : Type 0 where
  none : Framing
  framing : List LeftOutByte → Framing

abbrev pub framing_by : List ℕ → Framed → Framing
framing_by line (found ks f e) = framing (left_out 0 ks line)
framing_by line (unframed number value) = none

unfoldable pub framing_of : CodeTable → Method → Parity → List ℕ → Framing
framing_of t m p line = framing_by line (framed t m p line)

-- what an accepted block holds
pub record Parts : Type 0 where
  pub shape : Shape
  pub end : EndSign
  pub header : List ℕ
  pub text : List ℕ
  pub counted : ℕ

pub data ReadAnswer : Type 0 where
  taken : Parts → ReadAnswer
  refusal : ℕ → ℕ → ReadAnswer

abbrev pub parts_of : Method → List ℕ → List Mark → Field → EndSign → Parts
parts_of m line ks f e =
    record {
      shape = shape_of (has_inner ks) f;
      end = e;
      header = header (is_seven m) ks line;
      text = text (is_seven m) ks line;
      counted = length (counted ks line);
    }

-- how many bytes of output the parts take
abbrev pub output_length : Parts → ℕ
output_length b = length b.header + length b.text

-- method 7 has two check characters: the row check is asked by 18, the diagonal character by 54
abbrev pub is_diagonal : Method → Bool
is_diagonal method.Parity = false
is_diagonal method.Matrix = false
is_diagonal method.Cyclic = false
is_diagonal method.CyclicAlternative = false
is_diagonal method.Diagonal = true

-- 18 asks for the check, or the first character of two
abbrev pub first_asked : Method → List Bool → List Bool
first_asked m check = cond (is_diagonal m) (take 8 check) check

-- 54 asks for the second
abbrev pub then_asked : Method → List Bool → List Bool
then_asked m check = cond (is_diagonal m) (drop 8 check) []

-- 18 and 54, of the check received and the one computed
abbrev pub ask_same : Method → List Bool → List Bool → ReadAnswer → ReadAnswer
ask_same m received computed next =
    cond (same (first_asked m received) (first_asked m computed))
    (cond (same (then_asked m received) (then_asked m computed)) next (refusal 54 0))
    (refusal 18 0)

-- 19, of an output of `room` bytes
abbrev pub ask_room : Parts → ℕ → ReadAnswer
ask_room b room = cond (leb (output_length b) room) (taken b) (refusal 19 (output_length b))

abbrev pub ask_check : Method → Parity → List ℕ → ℕ → Framed → ReadAnswer
ask_check m p line room (unframed number value) = refusal number value
ask_check m p line room (found ks f e) =
    ask_same m (bits_of (check_bytes ks line)) (check_of m p (counted ks line)) (ask_room (parts_of m line ks f e) room)

unfoldable pub read_block : CodeTable → Method → Parity → List ℕ → ℕ → ReadAnswer
read_block t m p line room = ask_check m p line room (framed t m p line)

-- the output afterwards: header, then text, then what stood there; after a refusal all of what stood there
unfoldable pub read_output : ReadAnswer → List ℕ → List ℕ
read_output (taken b) out = b.header ++ b.text ++ drop (output_length b) out
read_output (refusal number value) out = out
