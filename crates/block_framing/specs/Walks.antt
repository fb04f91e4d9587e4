-- What the walk keeps of the marks: the bytes that were left out, from which the lengths follow at the end sign. Assumes nothing.
use Rattle.std.specs.Prelude.{ℕ, ◌+◌, ◌-◌, ◌≤◌, true, false, cond, List, [], ◌∷◌, eqb, Option, Some, None, is_some}
use Rattle.std.specs.Option.{option_or}
use Rattle.block.specs.declared.EndSign.{EndSign}
use Rattle.block.specs.declared.Mark.{Mark}
use Rattle.block.specs.declared.Mark.TheVariants.{LeftOut, HeaderByte, TextByte, InnerStart, End}
use Rattle.block.specs.Walk.{Stop, ended, refused, Walked}
use Rattle.block_end.specs.Ends.{text_signs, shape_by}
use Rattle.block_framing.specs.declared.FirstInnerStart.{FirstInnerStart}
use Rattle.block_framing.specs.declared.LeftOuts.{LeftOuts}
use Rattle.block_framing.specs.declared.Segments.{Segments}
use Rattle.block_framing.specs.Framings.{Tally, segments, WalkAnswer, framed, refusal}

abbrev pub no_left_outs : LeftOuts
no_left_outs = record { inner = None; all = 0 }

-- one mark more, that of the byte at the place `at`
abbrev pub leave : Mark → ℕ → LeftOuts → LeftOuts
leave LeftOut at t = record { inner = t.inner; all = t.all + 1 }
leave HeaderByte at t = t
leave TextByte at t = t
leave InnerStart at t = record { inner = option_or t.inner (Some (record { at = at; before = t.all })); all = t.all }
leave End at t = t

abbrev pub leaves : LeftOuts → ℕ → List Mark → LeftOuts
leaves t at [] = t
leaves t at (k ∷ ks) = leaves (leave k at t) (at + 1) ks

-- the place of the first inner start, 0 where there is none: no inner start stands at 0
abbrev pub place_of : Option FirstInnerStart → ℕ
place_of None = 0
place_of (Some inner) = inner.at

-- no number is past n
pub record Small (t : LeftOuts) (n : ℕ) : Type 0 where
  pub inner : place_of t.inner ≤ n
  pub all : t.all ≤ n

abbrev pub numbers : ℕ → ℕ → ℕ → Tally
numbers h x n = record { inner = 0; header = h; text = x; counted = n }

-- a line with a text and so many signs before it, its start at the place `start`, whose end sign stands behind `after` bytes, `all`
-- of them left out
abbrev pub text_at : ℕ → ℕ → EndSign → Option FirstInnerStart → ℕ → ℕ → Segments
text_at start signs e None all after =
    segments (shape_by signs false) e (numbers 0 (after - all - 1) (after - all)) after (start + signs) (start + signs) (start + signs) (after - signs)
text_at start signs e (Some inner) all after =
    segments (shape_by signs true) e (numbers (inner.at - inner.before) (after - all - (inner.at - inner.before + signs + 1)) (after - all)) after (start + 1) inner.at (inner.at + signs) (after - signs)

-- a line with its start at the place `start`, whose end sign stands behind `after` bytes
unfoldable pub segments_at : ℕ → ℕ → EndSign → LeftOuts → ℕ → Segments
segments_at start signs e t after =
    cond (eqb signs 0)
    (segments (shape_by signs (is_some t.inner)) e (numbers (after - t.all - 1) 0 (after - t.all)) after (start + 1) (after - 1) (after - 1) (after - 1))
    (text_at start signs e t.inner t.all after)

abbrev pub stopped : ℕ → LeftOuts → ℕ → Stop → WalkAnswer
stopped start t at (ended f e) = framed (segments_at start (text_signs f) e t at)
stopped start t at (refused number value) = refusal number value

abbrev pub answer_after : ℕ → LeftOuts → ℕ → List Mark → Stop → WalkAnswer
answer_after start t at [] s = stopped start t at s
answer_after start t at (k ∷ ks) s = answer_after start (leave k at t) (at + 1) ks s

-- what the walk hands on, of a line with its start at the place `start`, from the place `at` on
abbrev pub walk_answer : ℕ → LeftOuts → ℕ → Walked → WalkAnswer
walk_answer start t at w = answer_after start t at w.marks w.stop
