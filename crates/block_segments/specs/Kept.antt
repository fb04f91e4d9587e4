-- A segment's bytes judged one after the other. Assumes nothing.
use Rattle.std.specs.Prelude.{ℕ, Bool, false, List}
use Rattle.block.specs.declared.Code.{Code}
use Rattle.block.specs.Signs.{table_of}
use Rattle.block_framing.specs.Framings.{is_kept, next_behind, kept_bytes}
use Rattle.block_segments.specs.declared.kept.Keeping.{Keeping}

-- at the start of a segment
abbrev pub begin : Code → Bool → Bool → Keeping
begin code clear seven = record { code = code; clear = clear; seven = seven; behind = false }

-- whether the next byte is kept
abbrev pub keeps : Keeping → ℕ → Bool
keeps k b = is_kept (table_of k.code) k.clear k.seven k.behind b

-- how the byte behind it is judged
abbrev pub after : Keeping → ℕ → Keeping
after k b = record { code = k.code; clear = k.clear; seven = k.seven; behind = next_behind (table_of k.code) k.clear k.behind b }

-- what is kept of the bytes to come
abbrev pub kept_of : Keeping → List ℕ → List ℕ
kept_of k bs = kept_bytes (table_of k.code) k.clear k.seven k.behind bs
