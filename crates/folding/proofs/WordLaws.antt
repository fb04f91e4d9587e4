-- Words of 64 bits, as bits. Assumes nothing.
use mathlib.Core.Path.{◌≡◌, refl, sym, ap, ap₂, ◌∙◌}
use Prim.Native.Nat.{ℕ, zero, suc, ◌+◌, ◌*◌}
use native.Mathlib.Omega.{arith}
use mathlib.Core.List.{List, [], ◌∷◌, ◌++◌, append_assoc, append-nil}
use lib.Bits.{bit_xor}
use lib.ListN.{length, replicate, length-append}
use lib.Seq.{take_at, drop_at}
use Rattle.bits.specs.Strings.{xor_bits, zeros}
use Rattle.bits.specs.Bytes.{low_bits}
use Rattle.bits.proofs.Strings.{xor_bits-append, zeros-append}
use Rattle.bits.proofs.Bytes.{length-low_bits, low_bits-xor, low_bits-zero}
use Rattle.folding.specs.Fold.{word_bits, spread, folded_bits}

abbrev pub xor_words : List ℕ → List ℕ → List ℕ
xor_words [] ys = []
xor_words (x ∷ xs) [] = []
xor_words (x ∷ xs) (y ∷ ys) = bit_xor x y ∷ xor_words xs ys

pub words_xor : (xs ys : List ℕ) → length xs ≡ length ys → xor_bits (word_bits xs) (word_bits ys) ≡ word_bits (xor_words xs ys)
unfolding word_bits
words_xor [] [] h = refl
words_xor [] (y ∷ ys) h = absurd (omega arith)
words_xor (x ∷ xs) [] h = absurd (omega arith)
words_xor (x ∷ xs) (y ∷ ys) h =
    xor_bits-append (low_bits 64 x) (low_bits 64 y) (word_bits xs) (word_bits ys) (length-low_bits 64 x ∙ sym (length-low_bits 64 y))
    ∙ ap₂ ◌++◌ (sym (low_bits-xor 64 x y)) (words_xor xs ys (omega arith))

pub length_words : (ws : List ℕ) → length (word_bits ws) ≡ 64 * length ws
unfolding word_bits
length_words [] = refl
length_words (w ∷ ws) =
    length-append (low_bits 64 w) (word_bits ws) ∙ ap₂ (λ x y. x + y) (length-low_bits 64 w) (length_words ws) ∙ count (length ws)
  where
    count : (n : ℕ) → 64 + 64 * n ≡ 64 * suc n
    count n = omega arith

-- words of zero
abbrev pub zero_words : ℕ → List ℕ
zero_words r = replicate r 0

pub zero_words_lem : (r : ℕ) → word_bits (zero_words r) ≡ zeros (64 * r)
unfolding word_bits
zero_words_lem zero = refl
zero_words_lem (suc r) =
    let m : 64 + 64 * r ≡ 64 * suc r = omega arith in
    ap₂ ◌++◌ (low_bits-zero 64) (zero_words_lem r) ∙ zeros-append 64 (64 * r) ∙ ap zeros m

-- one word before words of zero
pub placed : (t r : ℕ) → low_bits 64 t ++ zeros (64 * r) ≡ word_bits (t ∷ zero_words r)
unfolding word_bits
placed t r = ap (λ z. low_bits 64 t ++ z) (sym (zero_words_lem r))

-- ---- a word taken away: what the next words are then to have added, where its powers fill the words ss

pub shift_words : (ws : List ℕ) → word_bits ws ++ zeros 64 ≡ word_bits (ws ++ 0 ∷ [])
unfolding word_bits
shift_words [] = sym (append-nil (low_bits 64 0) ∙ low_bits-zero 64)
shift_words (w ∷ ws) = append_assoc (low_bits 64 w) (word_bits ws) (zeros 64) ∙ ap (λ z. low_bits 64 w ++ z) (shift_words ws)

pub folded_words : (n : ℕ) (es : List ℕ) (a : ℕ) (ws ss : List ℕ) (word : ℕ) → spread n es (low_bits 64 (bit_xor a word)) ≡ word_bits ss
    → length ss ≡ length (ws ++ 0 ∷ []) → folded_bits n es (word_bits (a ∷ ws)) (low_bits 64 word) ≡ word_bits (xor_words ss (ws ++ 0 ∷ []))
unfolding folded_bits word_bits
folded_words n es a ws ss word s l =
    let first = take_at (low_bits 64 a) (word_bits ws) 64 (length-low_bits 64 a) in
    let others = drop_at (low_bits 64 a) (word_bits ws) 64 (length-low_bits 64 a) in
    ap₂ (λ x y. xor_bits (spread n es (xor_bits x (low_bits 64 word))) (y ++ zeros 64)) first others
    ∙ ap₂ (λ x y. xor_bits (spread n es x) y) (sym (low_bits-xor 64 a word)) (shift_words ws)
    ∙ ap (λ x. xor_bits x (word_bits (ws ++ 0 ∷ []))) s
    ∙ words_xor ss (ws ++ 0 ∷ []) l
