-- The start of a line: a SYN ahead of it is left out and the start awaited still; an empty line has none. Assumes nothing.
use mathlib.Core.Path.{◌≡◌, refl, ap}
use Prim.Native.Nat.{ℕ, ◌+◌}
use mathlib.Core.Bool.{Bool, true, cond}
use mathlib.Core.List.{List, [], ◌∷◌}
use Rattle.block.specs.declared.Method.{Method}
use Rattle.block.specs.declared.Method.TheVariants as method
use Rattle.block.specs.declared.Parity.{Parity}
use Rattle.block.specs.declared.Mark.TheVariants.{LeftOut}
use Rattle.block.specs.declared.Field.TheVariants.{Start}
use Rattle.block.specs.Signs.{CodeTable, syn, sign_of}
use Rattle.block.specs.Characters.{is_seven, carries, character}
use Rattle.block.specs.Walk.{ahead, judge, onward, walk}
use Rattle.block.specs.Read.{unframed, framed}

pub syn_ahead : (t : CodeTable) (seven : Bool) (b : ℕ) (rest : List ℕ) (at : ℕ) → sign_of t (character seven b) ≡ syn
    → walk t seven (b ∷ rest) at Start ≡ ahead LeftOut (walk t seven rest (at + 1) Start)
syn_ahead t seven b rest at e = ap (λ s. onward (walk t seven rest (at + 1)) Start at (judge seven Start s)) e

pub empty_line : (t : CodeTable) (m : Method) (p : Parity) → carries t m ≡ true → framed t m p [] ≡ unframed 13 0
unfolding framed
empty_line t m p c = rw c (go m)
  where
    go : (k : Method) → cond (is_seven k) (unframed 13 0) (unframed 13 0) ≡ unframed 13 0
    go method.Parity = refl
    go method.Matrix = refl
    go method.Cyclic = refl
    go method.CyclicAlternative = refl
    go method.Diagonal = refl
