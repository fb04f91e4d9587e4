-- What the steps of the walk compute. The rules do not rest on these definitions. Assumes nothing.
use Rattle.std.specs.Prelude.{ℕ, ◌+◌, List, length}
use Rattle.registers.specs.Register.{enter_string_by_table}
use Rattle.frame.specs.Stuffing.{Unstuffed, clean, missing}
use Rattle.frame.specs.declared.ReadRefusal.{ReadRefusal}
use Rattle.frame.specs.declared.ReadRefusal.TheVariants.{ZeroMissing}
use Rattle.frame_walk.specs.Walk.{Walked, closed, refused}

-- a pass with a table, the closing flag at `end` and `count` bits passed before
unfoldable pub passed : List ℕ → ℕ → ℕ → ℕ → Unstuffed → Walked
passed table end register count (clean s) = closed end (count + length s) (enter_string_by_table table register s)
passed table end register count (missing p) = refused 33 p

-- question 33, of a place in bits
abbrev pub zero_missing_at : ℕ → ReadRefusal
zero_missing_at place = ZeroMissing (record { 0 = place })
