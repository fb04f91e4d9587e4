-- The text of a line. Assumes nothing.
use Rattle.std.specs.Prelude.{ℕ, Bool, cond, List}
use Rattle.block.specs.Signs.{CodeTable}
use Rattle.block.specs.Write.{escaped}

-- the text as it is sent, without parity bits
unfoldable pub text_bytes : CodeTable → Bool → List ℕ → List ℕ
text_bytes t clear body = cond clear (escaped t body) body
