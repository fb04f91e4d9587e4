-- Words of 64 bits. Assumes nothing.
use Rattle.std.specs.Prelude.{ℕ, ◌+◌, ◌-◌, ◌/◌, Bool, cond, List, leb, ltb, length, take, drop}
use Rattle.bits.specs.Strings.{zeros}
use Rattle.bits.specs.Bytes.{bits_of}

-- the bits of the eight bytes from the place `at` on; zeros where the content has no eight there
unfoldable pub word_at : List ℕ → ℕ → List Bool
word_at content at = cond (leb (at + 8) (length content)) (bits_of (take 8 (drop at content))) (zeros 64)

-- how many words of a content of `size` bytes are taken before its last bytes: none of one shorter than `least`
abbrev pub words_before : ℕ → ℕ → ℕ → ℕ
words_before size least last = cond (ltb size least) 0 ((size - last) / 8)
