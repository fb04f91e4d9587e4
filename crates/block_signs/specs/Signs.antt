-- The signs that end a line, and the places of up to two bytes. Assumes nothing.
use Rattle.std.specs.Prelude.{ℕ, ◌-◌, Bool, cond, List, [], ◌∷◌, ◌++◌, length, replicate}
use Rattle.block.specs.declared.EndSign.{EndSign}
use Rattle.block.specs.Signs.{CodeTable, end_byte}

-- in clear text, DLE before the end sign
abbrev pub end_signs : CodeTable → Bool → EndSign → List ℕ
end_signs t clear e = cond clear (t.DLE ∷ end_byte t e ∷ []) (end_byte t e ∷ [])

-- up to two bytes in two places, zeros behind them
abbrev pub in_two_places : List ℕ → List ℕ
in_two_places bs = bs ++ replicate (2 - length bs) 0
