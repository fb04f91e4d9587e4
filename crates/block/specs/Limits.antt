-- How long a block and its line may be (document 01, "Questions before a line is taken"). Assumes nothing.
use Rattle.std.specs.Prelude.{ℕ}

-- questions 5 and 17: the most bytes that a block counts, in every method what methods 3 and 4 check at most
abbrev pub counted_limit : ℕ
counted_limit = 4096

-- question 11: the most bytes of a line
abbrev pub line_limit : ℕ
line_limit = 16384
