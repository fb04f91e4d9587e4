-- The marks of a walk stand within the line. Assumes nothing.
use Prim.Native.Nat.{ℕ, ◌+◌, ◌≤◌}
use native.Mathlib.Omega.{arith}
use mathlib.Core.Bool.{Bool}
use mathlib.Core.List.{List, [], ◌∷◌}
use lib.ListN.{length}
use Rattle.block.specs.declared.Field.{Field}
use Rattle.block.specs.declared.Judged.{Judged}
use Rattle.block.specs.declared.Judged.TheVariants.{Is, Ends, NoStart, OutOfPlace, DleOutOfPlace}
use Rattle.block.specs.Signs.{CodeTable, sign_of}
use Rattle.block.specs.Characters.{character}
use Rattle.block.specs.Walk.{Walked, judge, onward, walk}

within_step : (n : ℕ) (go : Field → Walked) → ((g : Field) → length (go g).marks ≤ n) → (f : Field) (at : ℕ) (j : Judged)
    → length (onward go f at j).marks ≤ n + 1
within_step n go ih f at (Is k g) = omega (arith, ih g)
within_step n go ih f at (Ends e) = omega arith
within_step n go ih f at NoStart = omega arith
within_step n go ih f at OutOfPlace = omega arith
within_step n go ih f at DleOutOfPlace = omega arith

pub marks-within : (t : CodeTable) (seven : Bool) (line : List ℕ) (at : ℕ) (f : Field) → length (walk t seven line at f).marks ≤ length line
marks-within t seven [] at f = omega arith
marks-within t seven (b ∷ rest) at f =
    let j : Judged = judge seven f (sign_of t (character seven b)) in
    omega (arith, within_step (length rest) (walk t seven rest (at + 1)) (marks-within t seven rest (at + 1)) f at j)
