-- How a word enters, as code has it: the map of words was tested at every single bit. Assumes nothing.
use mathlib.Core.Path.{◌≡◌, refl, ap, ◌∙◌}
use Prim.Native.Nat.{ℕ, ◌%◌, ◌^◌, ◌<◌}
use native.Mathlib.Nat.{mod-lt}
use mathlib.Core.Bool.{xor}
use lib.Bits.{bit_and, bit_xor}
use lib.Dec.{T, lit<}
use Rattle.std.proofs.lemmas.Nat.{and_mask}
use Rattle.bits.specs.Bytes.{low_bits}
use Rattle.bits.proofs.Bytes.{low_bits-mod}
use Rattle.bits.proofs.Tests.{every}
use Rattle.registers.specs.Register.{enter}
use Rattle.quotient.specs.WordMaps.{WordMap, whole, up, down, sum, onward, number}
use Rattle.quotient.proofs.WordMaps.{at_each_bit, word_enters}
use Rattle.fixed_polynomials.specs.Polynomials.{fixed8, fixed16, fixed24, degree8, degree16, degree24}
use Rattle.fixed_polynomials.proofs.Polynomials.{widths}

abbrev pub fixed8_word : WordMap
fixed8_word =
    onward (sum (sum whole (up 6 whole)) (sum (up 7 whole) (up 8 whole)))
    (onward (sum (sum whole (up 12 whole)) (sum (up 14 whole) (up 16 whole)))
    (onward (sum (sum whole (up 24 whole)) (sum (up 28 whole) (up 32 whole)))
    (onward (sum (sum whole (up 48 whole)) (up 56 whole))
    (sum (sum (down 58 whole) (down 57 whole)) (down 56 whole)))))

fixed8_word_lem : T (at_each_bit 8 fixed8 fixed8_word)
unfolding at_each_bit every low_bits enter fixed8 xor
fixed8_word_lem = tt

pub word_enters_8 : (register word : ℕ) → register < 2 ^ 8 → word < 2 ^ 64
    → low_bits 8 (number fixed8_word (bit_xor register word)) ≡ enter fixed8 (low_bits 8 register) (low_bits 64 word)
unfolding degree8
word_enters_8 = word_enters 8 56 fixed8 fixed8_word widths.degree_8.generator.width refl fixed8_word_lem

abbrev pub fixed16_word : WordMap
fixed16_word =
    onward (sum (sum (sum whole (up 1 whole)) (sum (up 3 whole) (up 5 whole))) (sum (sum (up 11 whole) (up 13 whole)) (sum (up 15 whole) (up 16 whole))))
    (onward (sum (sum (sum whole (up 2 whole)) (sum (up 6 whole) (up 10 whole))) (sum (sum (up 22 whole) (up 26 whole)) (sum (up 30 whole) (up 32 whole))))
    (onward (sum (sum (sum whole (up 4 whole)) (sum (up 12 whole) (up 20 whole))) (sum (sum (up 44 whole) (up 52 whole)) (up 60 whole)))
    (onward (sum (sum whole (up 8 whole)) (sum (up 24 whole) (up 40 whole)))
    (onward (sum (sum whole (up 16 whole)) (up 48 whole))
    (onward (sum whole (up 32 whole))
    (sum (sum (sum (down 63 whole) (down 61 whole)) (sum (down 59 whole) (down 53 whole))) (sum (sum (down 51 whole) (down 49 whole)) (down 48 whole))))))))

fixed16_word_lem : T (at_each_bit 16 fixed16 fixed16_word)
unfolding at_each_bit every low_bits enter fixed16 xor
fixed16_word_lem = tt

pub word_enters_16 : (register word : ℕ) → register < 2 ^ 16 → word < 2 ^ 64
    → low_bits 16 (number fixed16_word (bit_xor register word)) ≡ enter fixed16 (low_bits 16 register) (low_bits 64 word)
unfolding degree16
word_enters_16 = word_enters 16 48 fixed16 fixed16_word widths.degree_16.generator.width refl fixed16_word_lem

abbrev pub fixed24_word : WordMap
fixed24_word =
    onward (sum (sum (sum whole (up 2 whole)) (sum (up 12 whole) (up 14 whole))) (sum (sum (up 15 whole) (up 22 whole)) (sum (up 23 whole) (up 24 whole))))
    (onward (sum (sum (sum whole (up 4 whole)) (sum (up 24 whole) (up 28 whole))) (sum (sum (up 30 whole) (up 44 whole)) (sum (up 46 whole) (up 48 whole))))
    (onward (sum (sum (sum whole (up 8 whole)) (up 48 whole)) (sum (up 56 whole) (up 60 whole)))
    (onward (sum whole (up 16 whole))
    (onward (sum whole (up 32 whole))
    (sum (sum (sum (down 62 whole) (down 52 whole)) (sum (down 50 whole) (down 49 whole))) (sum (sum (down 42 whole) (down 41 whole)) (down 40 whole)))))))

fixed24_word_lem : T (at_each_bit 24 fixed24 fixed24_word)
unfolding at_each_bit every low_bits enter fixed24 xor
fixed24_word_lem = tt

-- the bits above the 24 are not seen
pub word_enters_24 : (register word : ℕ) → word < 2 ^ 64
    → low_bits 24 (number fixed24_word (bit_xor (bit_and register 16777215) word)) ≡ enter fixed24 (low_bits 24 register) (low_bits 64 word)
unfolding degree24
word_enters_24 register word small =
    rw (and_mask register 24)
    (word_enters 24 40 fixed24 fixed24_word widths.degree_24.generator.width refl fixed24_word_lem (register % 2 ^ 24) word (mod-lt register (lit< tt)) small
    ∙ ap (λ r. enter fixed24 r (low_bits 64 word)) (low_bits-mod 24 register))
