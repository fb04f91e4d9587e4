-- Words within a content. Assumes nothing.
use mathlib.Core.Path.{◌≡◌, refl, sym, ap, ◌∙◌}
use Prim.Native.Nat.{ℕ, ◌+◌, ◌-◌, ◌*◌, ◌/◌, ◌≤◌, ◌<◌}
use native.Mathlib.Omega.{arith}
use mathlib.Core.Bool.{Bool, true, false, cond}
use mathlib.Core.List.{List}
use lib.Dec.{ltb}
use lib.ListN.{length, take, drop}
use borrow.Author.Tests.{le-leb, lt-leb}
use Rattle.bits.specs.Strings.{zeros}
use Rattle.bits.specs.Bytes.{low_bits, bits_of}
use Rattle.bits.proofs.Bytes.{low_bits-zero}
use Rattle.words.specs.Words.{word_at, words_before}

pub word-within : (content : List ℕ) (at : ℕ) → at + 8 ≤ length content → word_at content at ≡ bits_of (take 8 (drop at content))
unfolding word_at
word-within content at h = ap (λ t. cond t (bits_of (take 8 (drop at content))) (zeros 64)) (le-leb (at + 8) (length content) h)

pub no_word : (content : List ℕ) (at : ℕ) → length content < at + 8 → low_bits 64 0 ≡ word_at content at
unfolding word_at
no_word content at h =
    low_bits-zero 64 ∙ sym (ap (λ t. cond t (bits_of (take 8 (drop at content))) (zeros 64)) (lt-leb (at + 8) (length content) h))

-- the words are whole, and where there are any the last bytes are left
pub words_within : (size least last r : ℕ) → r ≡ words_before size least last → (8 * r ≤ size) × (0 < r → 8 * r + last ≤ size)
words_within size least last r q = go (ltb size least) refl
  where
    go : (t : Bool) → ltb size least ≡ t → (8 * r ≤ size) × (0 < r → 8 * r + last ≤ size)
    go true e = let n : r ≡ 0 = q ∙ ap (λ t. cond t 0 ((size - last) / 8)) e in (omega arith, λ some. omega arith)
    go false e = let n : r ≡ (size - last) / 8 = q ∙ ap (λ t. cond t 0 ((size - last) / 8)) e in (omega arith, λ some. omega arith)
