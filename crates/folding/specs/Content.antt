-- What the steps over a content leave: a word folded, words folded, words entered. Assumes nothing.
use Rattle.std.specs.Prelude.{◌≡◌, ℕ, zero, suc, ◌*◌, ◌/◌, ◌≤◌, Bool, List, ◌++◌, length}
use Rattle.std.specs.List.{concat}
use Rattle.bits.specs.Bytes.{bits_of}
use Rattle.registers.specs.Register.{enter, entered}
use Rattle.folding.specs.Fold.{word_bits, added, EndsWithin}

-- a word m at the front of a content is taken away: what is then yet to be added to the rest, of `reach` bytes or more
pub record Folded (p : List Bool) (reach : ℕ) (pending : List ℕ) (m : List Bool) (next : List ℕ) : Type 0 where
  pub left : (y : List Bool) → 8 * reach ≤ length y → entered p (added (word_bits pending) (m ++ y)) ≡ entered p (added (word_bits next) y)
  pub within : 8 * length next ≤ reach

-- how many bits have to follow n folded words: without any, the word to which the register is added
abbrev pub room : ℕ → ℕ → ℕ
room reach zero = 64
room reach (suc n) = 8 * reach

-- a register and words are taken away: what is then yet to be added to the rest, and how many words it goes into
pub record FoldedAll (p : List Bool) (reach : ℕ) (register : List Bool) (words : List (List ℕ)) (pending : List ℕ) : Type 0 where
  pub left : (y : List Bool) → room reach (length words) ≤ length y → entered p (added (word_bits pending) y) ≡ enter p register (bits_of (concat words) ++ y)
  pub within : (n : ℕ) → room reach (length words) / 64 ≤ n → EndsWithin n pending

-- words, with what is yet to be added to them, are entered into an empty register; nothing may be left to add to what follows
abbrev pub EnteredAll : List Bool → List ℕ → List (List ℕ) → List Bool → Type 0
EnteredAll p pending words register =
    EndsWithin (length words) pending → (y : List Bool) → enter p register y ≡ entered p (added (word_bits pending) (bits_of (concat words) ++ y))
