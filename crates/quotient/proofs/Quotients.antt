-- Words and bytes that enter by their quotient: for each generator the map of words that code computes, and its test at every single
-- bit; and what a byte leaves, tested at every byte. Assumes nothing.
use mathlib.Core.Path.{◌≡◌, sym, ap, ◌∙◌}
use Prim.Native.Nat.{ℕ, ◌+◌, ◌*◌, ◌/◌, ◌%◌, ◌^◌, ◌<◌}
use native.Mathlib.Nat.{mod-lt}
use mathlib.Core.Bool.{Bool, xor}
use mathlib.Core.List.{List}
use Rattle.std.proofs.lemmas.Nat.{and_mask}
use lib.Bits.{bit_and, bit_xor}
use lib.Dec.{T, eqb, eqb→eq, lit<}
use lib.ListN.{length}
use Rattle.bits.specs.Bytes.{low_bits, value}
use Rattle.bits.proofs.Tests.{every, every_at}
use Rattle.division.specs.Division.{divide}
use Rattle.division.specs.Generators.{ccitt16, ibm16, ieee32}
use Rattle.registers.specs.Register.{enter, entry, enter_by_table}
use Rattle.registers.proofs.Table.{byte-entry, table_enters_byte}
use Rattle.quotient.specs.WordMaps.{WordMap, whole, up, down, sum, onward, times_one, times_two}
use Rattle.quotient.proofs.WordMaps.{at_each_bit}

-- ---- words

abbrev pub ccitt_word : WordMap
ccitt_word =
    onward (sum (sum whole (up 4 whole)) (sum (up 11 whole) (up 16 whole)))
    (onward (sum (sum whole (up 8 whole)) (sum (up 22 whole) (up 32 whole)))
    (onward (sum (sum whole (up 16 whole)) (up 44 whole))
    (onward (sum whole (up 32 whole))
    (sum (sum (down 48 whole) (down 53 whole)) (down 60 whole)))))

pub ccitt_word_lem : T (at_each_bit 16 ccitt16 ccitt_word)
unfolding at_each_bit every low_bits enter ccitt16 xor
ccitt_word_lem = tt

abbrev pub ibm_word : WordMap
ibm_word =
    onward (sum (sum whole (up 1 whole)) (sum (up 14 whole) (up 16 whole)))
    (onward (sum (sum whole (up 2 whole)) (sum (up 28 whole) (up 32 whole)))
    (onward (sum (sum whole (up 4 whole)) (up 56 whole))
    (onward (sum whole (up 8 whole))
    (onward (sum whole (up 16 whole))
    (onward (sum whole (up 32 whole))
    (sum (sum (down 48 whole) (down 50 whole)) (down 63 whole)))))))

pub ibm_word_lem : T (at_each_bit 16 ibm16 ibm_word)
unfolding at_each_bit every low_bits enter ibm16 xor
ibm_word_lem = tt

-- the bits of the quotient from the place k on, each with the one that many places further up
abbrev far : ℕ → ℕ → WordMap
far k n = sum (down k whole) (down (k + n) whole)

-- what follows 1 + u and 1 + u^2
abbrev pub ieee_rest : WordMap
ieee_rest =
    onward (sum (sum whole (up 24 whole)) (sum (up 36 whole) (up 40 whole)))
    (onward (sum whole (up 48 whole))
    (sum
    (sum (sum (far 32 1) (down 4 (far 32 1))) (sum (down 7 (far 32 1)) (down 10 (far 32 1))))
    (sum (down 22 (far 32 1)) (sum (far 34 10) (down 14 (far 34 10))))))

abbrev pub ieee_word : WordMap
ieee_word = onward times_one (onward times_two ieee_rest)

pub ieee_word_lem : T (at_each_bit 32 ieee32 ieee_word)
unfolding at_each_bit every low_bits enter ieee32 xor
ieee_word_lem = tt

-- ---- bytes

-- the map takes each byte to its entry in the table of the generator
unfoldable pub at_each_byte : ℕ → List Bool → (ℕ → ℕ) → Bool
at_each_byte w p f = every 256 (λ k. eqb (f k) (entry w p k))

pub byte_enters : (j : ℕ) (p : List Bool) (f : ℕ → ℕ) → length p ≡ 8 + j → T (at_each_byte (8 + j) p f) → (register byte : ℕ) → register < 2 ^ (8 + j)
    → low_bits (8 + j) (bit_xor (f (bit_and (bit_xor register byte) 255)) (register / 256)) ≡ enter p (low_bits (8 + j) register) (low_bits 8 byte)
unfolding at_each_byte enter_by_table
byte_enters j p f wide right register byte fits =
    let k = bit_xor register byte % 256 in
    ap (λ x. low_bits (8 + j) (bit_xor (f x) (register / 256))) (and_mask (bit_xor register byte) 8)
    ∙ ap (λ x. low_bits (8 + j) (bit_xor x (register / 256)))
    (eqb→eq (f k) (entry (8 + j) p k) (every_at 256 (λ i. eqb (f i) (entry (8 + j) p i)) right k (mod-lt (bit_xor register byte) (lit< tt)))
    ∙ sym (byte-entry j p wide register byte))
    ∙ table_enters_byte j p wide register byte fits

-- a register of w bits moved up, as code has it
abbrev shl : ℕ → ℕ → ℕ → ℕ
shl w k x = (x * 2 ^ k) % 2 ^ w

abbrev pub ccitt_byte : ℕ → ℕ
ccitt_byte k =
    let q = bit_and (bit_xor k (shl 16 4 k)) 255 in
    bit_xor (bit_xor (shl 16 8 q) (shl 16 3 q)) (q / 2 ^ 4)

pub ccitt_byte_lem : T (at_each_byte 16 ccitt16 ccitt_byte)
unfolding at_each_byte every value divide low_bits ccitt16 xor
ccitt_byte_lem = tt

abbrev pub ibm_byte : ℕ → ℕ
ibm_byte k =
    let a = bit_xor k (shl 16 1 k) in
    let b = bit_xor a (shl 16 2 a) in
    let q = bit_and (bit_xor b (shl 16 4 b)) 255 in
    bit_xor (bit_xor (shl 16 8 q) (shl 16 6 q)) (q / 2 ^ 7)

pub ibm_byte_lem : T (at_each_byte 16 ibm16 ibm_byte)
unfolding at_each_byte every value divide low_bits ibm16 xor
ibm_byte_lem = tt

abbrev pub ieee_byte : ℕ → ℕ
ieee_byte k =
    let q = bit_and (bit_xor k (shl 32 6 k)) 255 in
    let next = bit_xor q (shl 32 1 q) in
    let tenth = bit_xor q (shl 32 10 q) in
    bit_xor (bit_xor (bit_xor (shl 32 1 next) (shl 32 13 next)) (bit_xor (shl 32 16 next) (shl 32 19 next)))
    (bit_xor (shl 32 23 next) (bit_xor (tenth / 2 ^ 2) (shl 32 12 tenth)))

pub ieee_byte_lem : T (at_each_byte 32 ieee32 ieee_byte)
unfolding at_each_byte every value divide low_bits ieee32 xor
ieee_byte_lem = tt
