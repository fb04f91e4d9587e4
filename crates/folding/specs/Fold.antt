-- Folding: where x^n is a sum of lower powers modulo the generator, 64 bits at the front of a content are taken away and added
-- further on. Assumes nothing.
use Rattle.std.specs.Prelude.{◌≡◌, ℕ, zero, suc, ◌-◌, Bool, List, [], ◌∷◌, ◌++◌, length, take, drop}
use Rattle.bits.specs.Strings.{xor_bits, zeros}
use Rattle.bits.specs.Bytes.{low_bits}

-- the 64 bits t times each power of es, added up in a string of n bits
unfoldable pub spread : ℕ → List ℕ → List Bool → List Bool
spread n [] t = zeros n
spread n (e ∷ es) t = xor_bits (zeros (n - e - 64) ++ (t ++ zeros e)) (spread n es t)

-- words as bits
unfoldable pub word_bits : List ℕ → List Bool
word_bits [] = []
word_bits (w ∷ ws) = low_bits 64 w ++ word_bits ws

-- what is yet to be added to the next n bits, after one word more
unfoldable pub folded_bits : ℕ → List ℕ → List Bool → List Bool → List Bool
folded_bits n es pending word = xor_bits (spread n es (xor_bits (take 64 pending) word)) (drop 64 pending ++ zeros 64)

-- bits with what is yet to be added to them, as far as they go
unfoldable pub added : List Bool → List Bool → List Bool
added pending m = xor_bits (pending ++ zeros (length m)) m

-- nothing is yet to be added behind n words
unfoldable pub EndsWithin : ℕ → List ℕ → Type 0
EndsWithin n [] = Unit
EndsWithin zero (w ∷ ws) = (w ≡ 0) × EndsWithin zero ws
EndsWithin (suc n) (w ∷ ws) = EndsWithin n ws

-- ---- the multiples of the generators: x^256 = x^192 + x^80 + 1; x^192 = x^128 + x^80 + x^72 + x^16 + x^8;
-- x^320 = x^175 + x^137 + x^109 + x^20

abbrev pub ccitt_powers : List ℕ
ccitt_powers = 192 ∷ 80 ∷ 0 ∷ []

abbrev pub ibm_powers : List ℕ
ibm_powers = 128 ∷ 80 ∷ 72 ∷ 16 ∷ 8 ∷ []

abbrev pub ieee_powers : List ℕ
ieee_powers = 175 ∷ 137 ∷ 109 ∷ 20 ∷ []
