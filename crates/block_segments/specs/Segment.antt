-- The bytes of a segment that is said to keep so many, and their copy. Assumes nothing.
use Rattle.std.specs.Prelude.{◌≡◌, ℕ, Bool, false, cond, List, map, eqb, length}
use Rattle.std.proofs.lemmas.List.Edits.{sets}
use Rattle.block.specs.Signs.{CodeTable, table_of}
use Rattle.block.specs.Characters.{character}
use Rattle.block_framing.specs.Framings.{kept_bytes}
use Rattle.block_segments.specs.declared.Segment.{Segment}

-- all of it where it keeps as many as it has, else what is kept byte by byte
abbrev pub segment_bytes : CodeTable → Bool → Bool → ℕ → List ℕ → List ℕ
segment_bytes t clear seven kept part = cond (eqb kept (length part)) part (kept_bytes t clear seven false part)

abbrev pub kept_in : Bool → Segment → List ℕ
kept_in seven s = segment_bytes (table_of s.code) s.clear seven s.kept s.bytes.now

-- bytes copied to the start of an output, as characters: how many they are, and what the output holds then
abbrev pub Copied : Bool → List ℕ → List ℕ → ℕ → List ℕ → Type 0
Copied seven kept before n after = (n ≡ length kept) × (after ≡ sets before 0 (map (character seven) kept))
