-- A run of kept bytes in a clear text. Assumes nothing.
use Rattle.std.specs.Prelude.{◌≡◌, ℕ, ◌-◌, ◌≤◌, Bool, true, false, List, ◌++◌, length, take, drop}
use Rattle.block.specs.Signs.{CodeTable}
use Rattle.block_framing.specs.Framings.{kept_bytes}

-- the bytes from `from` up to `end` are kept, and what follows them is judged as they are
pub record KeptRun (t : CodeTable) (behind : Bool) (part : List ℕ) (from end : ℕ) : Type 0 where
  pub on : from ≤ end
  pub within : end ≤ length part
  pub kept : kept_bytes t true false behind (drop from part) ≡ take (end - from) (drop from part) ++ kept_bytes t true false behind (drop end part)
