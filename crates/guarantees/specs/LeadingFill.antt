-- Fill signs ahead of the start (document 02, card 1): lines taken before read as before, and leading fill changes nothing but the
-- framing. Assumes nothing.
use Rattle.std.specs.Prelude.{◌≡◌, ℕ, ◌+◌, ◌≤◌, Bool, true, cond, List, [], ◌∷◌, ◌++◌, map, leb, length, replicate}
use Rattle.block.specs.declared.Method.{Method}
use Rattle.block.specs.declared.Parity.{Parity}
use Rattle.block.specs.declared.Mark.TheVariants.{LeftOut}
use Rattle.block.specs.declared.Field.{Field}
use Rattle.block.specs.declared.Field.TheVariants.{Start, StartDle, Header, HeaderDle, Text, Clear, ClearDle}
use Rattle.block.specs.declared.Judged.{Judged}
use Rattle.block.specs.declared.Judged.TheVariants.{Is, NoStart}
use Rattle.block.specs.Signs.{CodeTable, Sign, soh, stx, etx, dle, syn, etb, us, other, sign_of}
use Rattle.block.specs.Characters.{is_seven, carries, character, sent}
use Rattle.block.specs.Walk.{in_start_dle, in_header, in_header_dle, in_text, in_clear, in_clear_dle, Walked, halt, cut, onward}
use Rattle.block.specs.Marks.{LeftOutByte, left_out}
use Rattle.block.specs.Read.{Framed, ask, ask_parities, ask_walk, framing, framing_of, ReadAnswer, taken, refusal, ask_check, read_block}
use Rattle.block.specs.Limits.{line_limit}
use Rattle.guarantees.specs.Lines.{is_one_of}
use Rattle.guarantees.specs.Blocks.{Accepts, Accepted}
use Rattle.guarantees.specs.Fill.{first_sign, without_fill}

-- ---- document 01's start question, without fill, and reading by it

abbrev pub in_start_before : Bool → Sign → Judged
in_start_before seven soh = Is LeftOut Header
in_start_before seven stx = Is LeftOut Text
in_start_before seven etx = NoStart
in_start_before seven dle = cond seven NoStart (Is LeftOut StartDle)
in_start_before seven syn = NoStart
in_start_before seven etb = NoStart
in_start_before seven us = NoStart
in_start_before seven other = NoStart

abbrev pub judge_before : Bool → Field → Sign → Judged
judge_before seven Start s = in_start_before seven s
judge_before seven StartDle s = in_start_dle s
judge_before seven Header s = in_header seven s
judge_before seven HeaderDle s = in_header_dle s
judge_before seven Text s = in_text s
judge_before seven Clear s = in_clear s
judge_before seven ClearDle s = in_clear_dle s

abbrev pub walk_before : CodeTable → Bool → List ℕ → ℕ → Field → Walked
walk_before t seven [] at f = halt (cut f)
walk_before t seven (b ∷ rest) at f = onward (walk_before t seven rest (at + 1)) f at (judge_before seven f (sign_of t (character seven b)))

unfoldable pub framed_before : CodeTable → Method → Parity → List ℕ → Framed
framed_before t m p line =
    ask (carries t m) 58 0
    (ask (leb (length line) line_limit) 11 0
    (cond (is_seven m) (ask_parities p line 0 (ask_walk m line (walk_before t (is_seven m) line 0 Start))) (ask_walk m line (walk_before t (is_seven m) line 0 Start))))

unfoldable pub read_before : CodeTable → Method → Parity → List ℕ → ℕ → ReadAnswer
read_before t m p line room = ask_check m p line room (framed_before t m p line)

-- ---- "Lines taken before read as before."

-- in methods 1, 2 and 7 it is the character that counts, without its parity bit
abbrev pub BeginsWithSyn : CodeTable → Method → List ℕ → Type 0
BeginsWithSyn t m line = first_sign t (is_seven m) line ≡ syn

pub record ReadAsBefore (t : CodeTable) (m : Method) (p : Parity) : Type 0 where
  -- a line that does not begin with SYN has the same answer, at every output length
  pub same_answer : (line : List ℕ) (room : ℕ) → (BeginsWithSyn t m line → ⊥) → read_block t m p line room ≡ read_before t m p line room
  -- a line that was taken, or answered 19, does not begin with SYN
  pub without_syn : (line : List ℕ) (room : ℕ) → Accepts (read_before t m p line room) → BeginsWithSyn t m line → ⊥
  -- so it reads as before
  pub taken_before : (line : List ℕ) (room : ℕ) → Accepts (read_before t m p line room) → read_block t m p line room ≡ read_before t m p line room

-- ---- leading fill changes nothing but the framing

-- k SYN, as the link sends them
abbrev pub fill : CodeTable → Method → Parity → ℕ → List ℕ
fill t m p k = replicate k (sent (is_seven m) p t.SYN)

-- the refusals that carry a place; 58, 13, 15, 17, 18 and 54 carry 0, 19 the needed bytes
abbrev pub carries_place : ℕ → Bool
carries_place = is_one_of (12 ∷ 14 ∷ 52 ∷ 53 ∷ [])

-- the value of a refusal, k places further where it is a place
abbrev pub moved_value : ℕ → ℕ → ℕ → ℕ
moved_value k number value = cond (carries_place number) (value + k) value

abbrev pub moved_answer : ℕ → ReadAnswer → ReadAnswer
moved_answer k (taken parts) = taken parts
moved_answer k (refusal number value) = refusal number (moved_value k number value)

-- a left-out byte, k places further
abbrev pub moved_byte : ℕ → LeftOutByte → LeftOutByte
moved_byte k o = record { place = o.place + k; value = o.value }

-- k SYN ahead of a line, 16,384 bytes at most in all
pub record LeadingFill (t : CodeTable) (m : Method) (p : Parity) (k : ℕ) : Type 0 where
  -- the same parts, at the same output lengths; or the same number, its place moved by k
  pub same_answer : (line : List ℕ) (room : ℕ) → length (fill t m p k ++ line) ≤ line_limit
      → read_block t m p (fill t m p k ++ line) room ≡ moved_answer k (read_block t m p line room)
  -- so an accepted line stays accepted
  pub stays_accepted : (line : List ℕ) → length (fill t m p k ++ line) ≤ line_limit → Accepted t m p line → Accepted t m p (fill t m p k ++ line)
  -- the framing begins with the fill, and the line's left-out bytes stand k places further
  pub in_framing : (line : List ℕ) (os : List LeftOutByte) → length (fill t m p k ++ line) ≤ line_limit → framing_of t m p line ≡ framing os
      → framing_of t m p (fill t m p k ++ line) ≡ framing (left_out 0 (replicate k LeftOut) (fill t m p k) ++ map (moved_byte k) os)
  -- writing back what was read drops it
  pub dropped : (line : List ℕ) → without_fill t m (fill t m p k ++ line) ≡ without_fill t m line
  -- SYN alone is no start
  pub syn_alone : (room : ℕ) → carries t m ≡ true → k ≤ line_limit → read_block t m p (fill t m p k) room ≡ refusal 13 0
