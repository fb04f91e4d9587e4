-- How many bits accepted blocks differ in. Assumes nothing.
use Rattle.std.specs.Prelude.{◌≡◌, ℕ, ◌*◌, ◌≤◌, List, length}
use Rattle.bits.specs.Bytes.{Bytes}
use Rattle.bits.specs.Differences.{differing_bits}
use Rattle.cyclic.specs.Check.{Parameters}
use Rattle.fixed_block.specs.Laws.{Accepted}

-- two unequal accepted blocks of one length, of at most n bits, differ in at least k bits
abbrev pub BlocksAtLeast : ℕ → ℕ → Parameters → Type 0
BlocksAtLeast k n m =
    (A B : List ℕ) → Bytes A → Bytes B → length A ≡ length B → Accepted m A → Accepted m B → 8 * length A ≤ n → (A ≡ B → ⊥)
    → k ≤ length (differing_bits A B)

-- two accepted blocks of one length, of n bits, differ in just k
pub record BlocksDifferIn (k n : ℕ) (m : Parameters) : Type 0 where
  pub A : List ℕ
  pub B : List ℕ
  pub bytes : Bytes A × Bytes B
  pub one_length : length A ≡ length B
  pub accepted : Accepted m A × Accepted m B
  pub size : 8 * length A ≡ n
  pub bits : length (differing_bits A B) ≡ k
