-- How long a written line and a written frame are (document 02, card 12). Assumes nothing.
use Rattle.std.specs.Prelude.{◌≡◌, ◌↔◌, ℕ, ◌+◌, ◌*◌, ◌/◌, ◌≤◌, cond, Bool, List, [], ◌∷◌, eqb, length, replicate}
use Rattle.bits.specs.Differences.{Each}
use Rattle.cyclic.specs.Check.{Parameters, method5, method6}
use Rattle.cyclic.specs.Laws.{OfWidth}
use Rattle.block.specs.declared.Method.{Method}
use Rattle.block.specs.declared.Method.TheVariants.{Cyclic, CyclicAlternative}
use Rattle.block.specs.declared.Parity.{Parity}
use Rattle.block.specs.declared.Shape.{Shape}
use Rattle.block.specs.declared.Shape.TheVariants as shape
use Rattle.block.specs.declared.EndSign.{EndSign}
use Rattle.block.specs.Signs.{CodeTable}
use Rattle.block.specs.Check.{check_length}
use Rattle.block.specs.Limits.{counted_limit}
use Rattle.block.specs.Write as blocks
use Rattle.frame.specs.Frame.{frame_of}
use Rattle.frame.specs.Write as frames

-- ---- lines

-- how many bytes of a text are DLE, which clear text sends twice
abbrev pub count_dle : CodeTable → List ℕ → ℕ
count_dle t [] = 0
count_dle t (b ∷ bs) = cond (eqb b t.DLE) 1 0 + count_dle t bs

-- the bytes of a line with a header of h bytes and a text of n, d of them DLE: its signs, its parts, its check
abbrev pub line_length : Method → Shape → ℕ → ℕ → ℕ → ℕ
line_length m shape.Header h n d = h + 2 + check_length m
line_length m shape.Text h n d = n + 2 + check_length m
line_length m shape.HeaderText h n d = h + n + 3 + check_length m
line_length m shape.ClearText h n d = n + d + 4 + check_length m
line_length m shape.HeaderClearText h n d = h + n + d + 5 + check_length m

-- what `write_block` answers of parts that it does not refuse
abbrev pub Written : CodeTable → Method → Shape → List ℕ → List ℕ → List ℕ → Type 0
Written t m s head body line = (p : Parity) × (e : EndSign) × (room : ℕ) × (blocks.write_block t m p s e head body room ≡ blocks.written line)

-- a line of clear text is as long as one can be just where every byte is DLE
abbrev pub MetByDle : CodeTable → List ℕ → List ℕ → Type 0
MetByDle t body line = (length line ≡ 2 * length body + 6) ↔ Each (λ b. b ≡ t.DLE) body

-- ---- frames

-- the most bits of a frame whose content and check have n bits: a zero after each five, and two flags
abbrev pub longest_frame : ℕ → ℕ
longest_frame n = n + 16 + n / 5

pub record Lengths : Type 0 where
  -- of every method and shape
  pub line : (t : CodeTable) (m : Method) (s : Shape) (head body line : List ℕ) → Written t m s head body line
      → length line ≡ line_length m s (length head) (length body) (count_dle t body)
  -- "In shape 4 under methods 3 and 4, n text bytes make a line of at most 2n + 6 bytes, and of exactly that many if and only if every
  -- byte is 10": of DLE, which is 10 in both codes
  pub clear_line_3 : (t : CodeTable) (head body line : List ℕ) → Written t Cyclic shape.ClearText head body line → length line ≤ 2 * length body + 6
  pub clear_line_4 : (t : CodeTable) (head body line : List ℕ) → Written t CyclicAlternative shape.ClearText head body line
      → length line ≤ 2 * length body + 6
  pub met_by_dle_3 : (t : CodeTable) (head body line : List ℕ) → Written t Cyclic shape.ClearText head body line → MetByDle t body line
  pub met_by_dle_4 : (t : CodeTable) (head body line : List ℕ) → Written t CyclicAlternative shape.ClearText head body line
      → MetByDle t body line
  -- so it is met, by as many DLE as a block can count
  pub clear_line_met : (t : CodeTable) (p : Parity) (e : EndSign) (n room : ℕ) → n + 1 ≤ counted_limit → 2 * n + 6 ≤ room
      → (line : List ℕ) × (blocks.write_block t Cyclic p shape.ClearText e [] (replicate n t.DLE) room ≡ blocks.written line) × (length line ≡ 2 * n + 6)
  -- over the width: a content of some bits and a check of w
  pub frame : (w : ℕ) (m : Parameters) → OfWidth w m → (content : List Bool) → length (frame_of m content) ≤ longest_frame (length content + w)
  -- so of what `write_frame` answers, by the claimed bits (card 13)
  pub frame_5 : (claimed : ℕ) (lent : List ℕ) (frame : List Bool) (room : ℕ) → frames.write_frame method5 claimed lent room ≡ frames.written frame
      → length frame ≤ claimed + 32 + (claimed + 16) / 5
  pub frame_6 : (claimed : ℕ) (lent : List ℕ) (frame : List Bool) (room : ℕ) → frames.write_frame method6 claimed lent room ≡ frames.written frame
      → length frame ≤ claimed + 48 + (claimed + 32) / 5
  -- "A frame of method 5 with n content bytes has at most 8n + 32 + (8n + 16) divided by 5, rounded down, bits": all bits of n bytes
  -- are claimed
  pub bytes_5 : (content : List ℕ) (frame : List Bool) (room : ℕ)
      → frames.write_frame method5 (8 * length content) content room ≡ frames.written frame
      → length frame ≤ 8 * length content + 32 + (8 * length content + 16) / 5
  -- "FF FF meets it", in every output that holds its 7 bytes
  pub met_by_ff : (room : ℕ) → 7 ≤ room
      → (frame : List Bool) × (frames.write_frame method5 16 (0xFF ∷ 0xFF ∷ []) room ≡ frames.written frame) × (length frame ≡ 8 * 2 + 32 + (8 * 2 + 16) / 5)
