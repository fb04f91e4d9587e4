-- Blocks worked out. Assumes nothing.
use Rattle.std.specs.Prelude.{◌≡◌, ℕ, List, [], ◌∷◌, ◌++◌, replicate}
use Rattle.bits.specs.Differences.{differing_bits}
use Rattle.fixed_polynomials.specs.Polynomials.{degree8, degree16, degree24}
use Rattle.fixed_block.specs.Block.{bytes, write_fixed}
use Rattle.fixed_block.specs.Laws.{Accepted}

-- a full block of degree 8 of zeros, and the one that differs from it in its first bit and its last, 127 apart
abbrev pub full : List ℕ
full = replicate 15 0 ++ 0xff ∷ []

abbrev pub ends_changed : List ℕ
ends_changed = 0x01 ∷ replicate 14 0 ++ 0x7f ∷ []

pub record Examples : Type 0 where
  pub degree_8 : write_fixed degree8 (0x31 ∷ []) 2 ≡ bytes (0x31 ∷ 0x4a ∷ [])
  pub degree_16 : write_fixed degree16 (0x31 ∷ []) 3 ≡ bytes (0x31 ∷ 0xb7 ∷ 0x1a ∷ [])
  pub degree_24 : write_fixed degree24 (0x31 ∷ []) 4 ≡ bytes (0x31 ∷ 0x6d ∷ 0x4e ∷ 0x21 ∷ [])
  pub full_accepted : Accepted degree8 full
  pub changed_accepted : Accepted degree8 ends_changed
  pub changed_bits : differing_bits full ends_changed ≡ 0 ∷ 127 ∷ []
