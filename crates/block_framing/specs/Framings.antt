-- What the walk hands on: where header and text begin and end, and what was counted. Every byte behind it is found from that
-- without judging again. Assumes nothing.
use Rattle.std.specs.Prelude.{◌≡◌, ℕ, ◌+◌, ◌-◌, ◌≤◌, ◌<◌, Bool, false, cond, not, ◌&&◌, List, [], ◌∷◌, ◌++◌, eqb, length, get_or, Result, Ok, Err}
use Rattle.std.proofs.Math.Seq.{slice}
use Rattle.bits.specs.Differences.{cons_if}
use Rattle.block.specs.declared.Link.{Link}
use Rattle.block.specs.declared.Shape.{Shape}
use Rattle.block.specs.declared.Shape.TheVariants as shape
use Rattle.block.specs.declared.EndSign.{EndSign}
use Rattle.block.specs.declared.Mark.{Mark}
use Rattle.block.specs.declared.Mark.TheVariants.{LeftOut, HeaderByte, TextByte, InnerStart, End}
use Rattle.block.specs.declared.ReadRefusal.{ReadRefusal}
use Rattle.block.specs.declared.Field.{Field}
use Rattle.block.specs.declared.Field.TheVariants.{Start, StartDle, Header, HeaderDle, Text, Clear, ClearDle}
use Rattle.block.specs.Signs.{CodeTable, table_of, sign_of, is_syn}
use Rattle.block.specs.Characters.{is_seven, character}
use Rattle.block.specs.Walk.{walk}
use Rattle.block.specs.Marks.{counted, is_header, is_text, sift}
use Rattle.block.specs.Read.{Framed, found, unframed}
use Rattle.block.specs.Read as rule
use Rattle.block.specs.Write.{is_clear}
use Rattle.block.specs.Answers.{read_number, read_value}
use Rattle.block_framing.specs.declared.Segments.{Segments}

-- ---- the marks counted up

-- the place of the first inner start, 0 where there was none; and how many bytes are header, text and counted
pub record Tally : Type 0 where
  pub inner : ℕ
  pub header : ℕ
  pub text : ℕ
  pub counted : ℕ

abbrev pub no_tally : Tally
no_tally = record { inner = 0; header = 0; text = 0; counted = 0 }

-- the place of the first inner start; it is never 0
abbrev pub first_of : ℕ → ℕ → ℕ
first_of inner at = cond (eqb inner 0) at inner

abbrev pub add_mark : Mark → ℕ → Tally → Tally
add_mark LeftOut at t = t
add_mark HeaderByte at t = record { inner = t.inner; header = t.header + 1; text = t.text; counted = t.counted + 1 }
add_mark TextByte at t = record { inner = t.inner; header = t.header; text = t.text + 1; counted = t.counted + 1 }
add_mark InnerStart at t = record { inner = first_of t.inner at; header = t.header; text = t.text; counted = t.counted + 1 }
add_mark End at t = record { inner = t.inner; header = t.header; text = t.text; counted = t.counted + 1 }

abbrev pub tallied : Tally → ℕ → List Mark → Tally
tallied t at [] = t
tallied t at (k ∷ ks) = tallied (add_mark k at t) (at + 1) ks

-- ---- the start

-- how many table.SYN stand ahead of the start, which is its place
abbrev pub start_of : CodeTable → Bool → List ℕ → ℕ
start_of table seven [] = 0
start_of table seven (b ∷ rest) = cond (is_syn (sign_of table (character seven b))) (start_of table seven rest + 1) 0

-- ---- the framing

abbrev pub segments : Shape → EndSign → Tally → ℕ → ℕ → ℕ → ℕ → ℕ → Segments
segments s e t after head inner body tail =
    record {
      shape = s;
      end = e;
      head = head;
      inner = inner;
      body = body;
      tail = tail;
      header = t.header;
      text = t.text;
      counted = t.counted;
      after = after;
    }

-- a line whose end sign stands in its header
abbrev pub header_only : ℕ → EndSign → Tally → ℕ → Segments
header_only start e t after = segments shape.Header e t after (start + 1) (after - 1) (after - 1) (after - 1)

-- a line with its start at the place `start`, whose end sign stands in field f, behind `after` bytes
unfoldable pub framing_at : ℕ → Field → EndSign → Tally → ℕ → Segments
framing_at start Start e t after = header_only start e t after
framing_at start StartDle e t after = header_only start e t after
framing_at start Header e t after = header_only start e t after
framing_at start HeaderDle e t after = header_only start e t after
framing_at start Clear e t after = header_only start e t after
framing_at start Text e t after =
    cond (eqb t.inner 0)
    (segments shape.Text e t after (start + 1) (start + 1) (start + 1) (after - 1))
    (segments shape.HeaderText e t after (start + 1) t.inner (t.inner + 1) (after - 1))
framing_at start ClearDle e t after =
    cond (eqb t.inner 0)
    (segments shape.ClearText e t after (start + 2) (start + 2) (start + 2) (after - 2))
    (segments shape.HeaderClearText e t after (start + 1) t.inner (t.inner + 2) (after - 2))

-- a framing, or number and value of a refusal
pub data WalkAnswer : Type 0 where
  framed : Segments → WalkAnswer
  refusal : ℕ → ℕ → WalkAnswer

abbrev pub of_walk : Result Segments ReadRefusal → WalkAnswer
of_walk (Ok f) = framed f
of_walk (Err r) = refusal (read_number r) (read_value r)

-- the answer for a line that passed the questions up to 17
abbrev pub framed_answer : CodeTable → Bool → List ℕ → Framed → WalkAnswer
framed_answer table seven line (found ks f e) = framed (framing_at (start_of table seven line) f e (tallied no_tally 0 ks) (length ks))
framed_answer table seven line (unframed number value) = refusal number value

-- of a line of a link: the whole answer, and that for a walk that passed the questions up to 12
abbrev pub framing_for : Link → List ℕ → WalkAnswer
framing_for l line = framed_answer (table_of l.code) (is_seven l.method) line (rule.framed (table_of l.code) l.method l.parity line)

abbrev pub walked_for : Link → List ℕ → WalkAnswer
walked_for l line = framed_answer (table_of l.code) (is_seven l.method) line (rule.ask_walk l.method line (walk (table_of l.code) (is_seven l.method) line 0 Start))

-- ---- bytes by their segments

-- whether a byte of a segment is header or text. In header and plain text table.SYN is left out; in clear text the first DLE of a pair
-- is, and a table.SYN `behind` a DLE
unfoldable pub is_kept : CodeTable → Bool → Bool → Bool → ℕ → Bool
is_kept table clear seven behind b = not (cond clear (cond behind (eqb b table.SYN) (eqb b table.DLE)) (eqb (character seven b) table.SYN))

unfoldable pub next_behind : CodeTable → Bool → Bool → ℕ → Bool
next_behind table clear behind b = clear && (not behind && eqb b table.DLE)

unfoldable pub kept_bytes : CodeTable → Bool → Bool → Bool → List ℕ → List ℕ
kept_bytes table clear seven behind [] = []
kept_bytes table clear seven behind (b ∷ bs) = cons_if (is_kept table clear seven behind b) b (kept_bytes table clear seven (next_behind table clear behind b) bs)

unfoldable pub header_in : CodeTable → Bool → Segments → List ℕ → List ℕ
header_in table seven f line = kept_bytes table false seven false (slice f.head f.inner line)

unfoldable pub text_in : CodeTable → Bool → Segments → List ℕ → List ℕ
text_in table seven f line = kept_bytes table (is_clear f.shape) seven false (slice f.body f.tail line)

-- header, inner start, text, end sign
unfoldable pub counted_in : CodeTable → Bool → Segments → List ℕ → List ℕ
counted_in table seven f line =
    header_in table seven f line ++ (slice f.inner f.body line ++ (text_in table seven f line ++ get_or line (f.after - 1) 0 ∷ []))

-- the segments stand in order within the line
pub record Ordered (f : Segments) (size : ℕ) : Type 0 where
  pub header : f.head ≤ f.inner
  pub inner : f.inner ≤ f.body
  pub text : f.body ≤ f.tail
  pub end : f.tail < f.after
  pub within : f.after ≤ size

-- a framing finds what the marks say
pub record Segmented (table : CodeTable) (seven : Bool) (line : List ℕ) (ks : List Mark) (f : Segments) : Type 0 where
  pub ordered : Ordered f (length line)
  pub headers : sift is_header ks line ≡ header_in table seven f line
  pub texts : sift is_text ks line ≡ text_in table seven f line
  pub counts : counted ks line ≡ counted_in table seven f line
