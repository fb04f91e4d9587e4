-- The first byte that fails a test. Assumes nothing.
use Rattle.std.specs.Prelude.{◌≡◌, ℕ, ◌+◌, ◌≤◌, ◌<◌, Bool, true, cond, List, [], ◌∷◌, get_or}

-- the first place, counted from `at`, whose byte fails the test; the place after the last where none does
unfoldable pub first_failing : (ℕ → Bool) → ℕ → List ℕ → ℕ
first_failing test at [] = at
first_failing test at (b ∷ rest) = cond (test b) (first_failing test (at + 1) rest) at

-- every byte from the place `from` up to `end` passes
abbrev pub AllPass : (ℕ → Bool) → List ℕ → ℕ → ℕ → Type 0
AllPass test l from end = (k : ℕ) → from ≤ k → k < end → test (get_or l k 0) ≡ true
