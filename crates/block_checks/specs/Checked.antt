-- The counted bytes as they are checked. Assumes nothing.
use Rattle.std.specs.Prelude.{ℕ, List, [], ◌∷◌, ◌++◌}
use Rattle.block.specs.declared.Shape.{Shape}
use Rattle.block.specs.declared.EndSign.{EndSign}
use Rattle.block.specs.Signs.{CodeTable, end_byte}
use Rattle.block.specs.Write.{inner_signs}

-- header, inner start, text and end sign, without their parity bits
unfoldable pub checked_bytes : CodeTable → Shape → EndSign → List ℕ → List ℕ → List ℕ
checked_bytes t s e head body = head ++ (inner_signs t s ++ (body ++ end_byte t e ∷ []))
