-- The questions on the parts of a block to be written, and what follows them. Assumes nothing.
use Rattle.std.specs.Prelude.{Bool, cond, not, ◌&&◌, ◌||◌, ℕ, List, [], leb, Result, Ok, Err}
use Rattle.block.specs.declared.Shape.{Shape}
use Rattle.block.specs.Signs.{CodeTable}
use Rattle.block.specs.Write.{is_clear, has_header, has_text, is_empty, counted_length, WriteAnswer, refusal, ask, ask_free}
use Rattle.block.specs.Answers.{write_number, write_value}
use Rattle.block.specs.declared.WriteRefusal.{WriteRefusal}
use Rattle.block.specs.Limits.{counted_limit}

-- questions 1, 4, 2, 3 and 5, as `write_block` asks them behind 58; where all are passed, the answer is `next`
unfoldable pub ask_parts : CodeTable → Bool → Shape → List ℕ → List ℕ → WriteAnswer → WriteAnswer
ask_parts t seven s head body next =
    ask (not (seven && is_clear s)) 1 0
    (ask ((has_header s || is_empty head) && (has_text s || is_empty body)) 4 0
    (ask_free t seven 2 head 0
    (ask_free t seven 3 (cond (is_clear s) [] body) 0
    (ask (leb (counted_length t s head body) counted_limit) 5 0 next))))

-- what code answered
abbrev pub after_asked : Result Unit WriteRefusal → WriteAnswer → WriteAnswer
after_asked (Ok passed) next = next
after_asked (Err r) next = refusal (write_number r) (write_value r)
