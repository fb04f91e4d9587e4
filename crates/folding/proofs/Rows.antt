-- A word times each power of a multiple, in words: where in a row of words it stands, and the rows added up. Assumes nothing.
use mathlib.Core.Path.{◌≡◌, refl, sym, ap, ap₂, subst, ◌∙◌}
use Prim.Native.Nat.{ℕ, zero, suc, ◌+◌, ◌-◌, ◌*◌, ◌/◌, ◌%◌, ◌^◌, ◌<◌}
use native.Mathlib.Nat.{add_comm, div-eq_of_lt, mul-mod_left}
use native.Mathlib.Omega.{arith}
use mathlib.Core.List.{List, [], ◌∷◌, ◌++◌, append_assoc, map}
use lib.Bits.{bit_xor}
use lib.ListN.{length, length-append, length-replicate}
use lib.Pow.{shr_lt, shl-shr}
use Rattle.bits.specs.Strings.{xor_bits, zeros}
use Rattle.bits.specs.Bytes.{low_bits}
use Rattle.bits.proofs.Strings.{zeros-append}
use Rattle.bits.proofs.Bytes.{low_bits-append, low_bits-mod, low_bits-zero}
use Rattle.folding.specs.Fold.{spread, word_bits, folded_bits}
use Rattle.folding.proofs.WordLaws.{xor_words, words_xor, zero_words, zero_words_lem, placed, folded_words}

-- a word moved on by j bits, in two words
moved : (j k t : ℕ) → t < 2 ^ (j + k)
    → zeros j ++ (low_bits (j + k) t ++ zeros k) ≡ low_bits (j + k) ((t * 2 ^ j) % 2 ^ (j + k)) ++ low_bits (j + k) (t / 2 ^ k)
moved j k t h =
    let low : low_bits (j + k) ((t * 2 ^ j) % 2 ^ (j + k)) ≡ zeros j ++ low_bits k t =
    low_bits-mod (j + k) (t * 2 ^ j) ∙ low_bits-append j k (t * 2 ^ j)
    ∙ ap₂ ◌++◌ (sym (low_bits-mod j (t * 2 ^ j)) ∙ ap (low_bits j) (mul-mod_left t (2 ^ j)) ∙ low_bits-zero j)
    (ap (low_bits k) (shl-shr t j)) in
    let high : low_bits (j + k) (t / 2 ^ k) ≡ low_bits j (t / 2 ^ k) ++ zeros k =
    low_bits-append j k (t / 2 ^ k)
    ∙ ap (λ z. low_bits j (t / 2 ^ k) ++ z) (ap (low_bits k) (div-eq_of_lt (shr_lt j k h)) ∙ low_bits-zero k) in
    let whole : low_bits (j + k) t ≡ low_bits k t ++ low_bits j (t / 2 ^ k) = ap (λ n. low_bits n t) (add_comm j k) ∙ low_bits-append k j t in
    ap (λ z. zeros j ++ (z ++ zeros k)) whole
    ∙ ap (λ z. zeros j ++ z) (append_assoc (low_bits k t) (low_bits j (t / 2 ^ k)) (zeros k))
    ∙ sym (append_assoc (zeros j) (low_bits k t) (low_bits j (t / 2 ^ k) ++ zeros k))
    ∙ ap₂ ◌++◌ (sym low) (sym high)

-- ---- rows

-- a word behind q words of zero and before r; or moved on by j bits more, so that m = 64 - j of its bits stay and j go to the next
pub data Place : Type 0 where
  whole : ℕ → ℕ → Place
  across : ℕ → ℕ → ℕ → ℕ → Place

abbrev pub power : Place → ℕ
power (whole q r) = 64 * r
power (across q j m r) = m + 64 * r

abbrev pub row : ℕ → Place → List ℕ
row t (whole q r) = zero_words q ++ t ∷ zero_words r
row t (across q j m r) = zero_words q ++ (t * 2 ^ j) % 2 ^ 64 ∷ t / 2 ^ m ∷ zero_words r

-- a place in a row of k words, of n bits
abbrev pub In : ℕ → ℕ → Place → Type 0
In n k (whole q r) = (n - 64 * r - 64 ≡ 64 * q) × (q + suc r ≡ k)
In n k (across q j m r) = (n - (m + 64 * r) - 64 ≡ 64 * q + j) × (j + m ≡ 64) × (q + suc (suc r) ≡ k)

abbrev pub AllIn : ℕ → ℕ → List Place → Type 0
AllIn n k [] = n ≡ 64 * k
AllIn n k (x ∷ xs) = In n k x × AllIn n k xs

abbrev pub rows : ℕ → ℕ → List Place → List ℕ
rows k t [] = zero_words k
rows k t (x ∷ xs) = xor_words (row t x) (rows k t xs)

-- words behind words of zero
behind : (q : ℕ) (ws : List ℕ) → zeros (64 * q) ++ word_bits ws ≡ word_bits (zero_words q ++ ws)
unfolding word_bits
behind zero ws = refl
behind (suc q) ws =
    let s : 64 * suc q ≡ 64 + 64 * q = omega arith in
    ap (λ z. z ++ word_bits ws) (ap zeros s ∙ sym (zeros-append 64 (64 * q)))
    ∙ append_assoc (zeros 64) (zeros (64 * q)) (word_bits ws)
    ∙ ap₂ ◌++◌ (sym (low_bits-zero 64)) (behind q ws)

moved_in_word : (j m t : ℕ) → j + m ≡ 64 → t < 2 ^ 64
    → zeros j ++ (low_bits 64 t ++ zeros m) ≡ low_bits 64 ((t * 2 ^ j) % 2 ^ 64) ++ low_bits 64 (t / 2 ^ m)
moved_in_word j m t e fits =
    subst (λ (w : ℕ). t < 2 ^ w → zeros j ++ (low_bits w t ++ zeros m) ≡ low_bits w ((t * 2 ^ j) % 2 ^ w) ++ low_bits w (t / 2 ^ m)) e (moved j m t) fits

length_sum : (xs ys : List ℕ) → length xs ≡ length ys → length (xor_words xs ys) ≡ length xs
length_sum [] ys h = refl
length_sum (x ∷ xs) [] h = absurd (omega arith)
length_sum (x ∷ xs) (y ∷ ys) h = ap suc (length_sum xs ys (omega arith))

module _ (n k t : ℕ) (fits : t < 2 ^ 64) where
  row-bits : (x : Place) → In n k x → zeros (n - power x - 64) ++ (low_bits 64 t ++ zeros (power x)) ≡ word_bits (row t x)
  unfolding word_bits
  row-bits (whole q r) i =
      ap (λ s. zeros s ++ (low_bits 64 t ++ zeros (64 * r))) i.0 ∙ ap (λ z. zeros (64 * q) ++ z) (placed t r) ∙ behind q (t ∷ zero_words r)
  row-bits (across q j m r) i =
      let x = (t * 2 ^ j) % 2 ^ 64 in
      let y = t / 2 ^ m in
      let z = zeros (64 * r) in
      let u = low_bits 64 t in
      let word : zeros j ++ (u ++ zeros m) ≡ low_bits 64 x ++ low_bits 64 y = moved_in_word j m t i.1 fits in
      ap₂ (λ s e. zeros s ++ (u ++ e)) i.0 (sym (zeros-append m (64 * r)))
      ∙ ap (λ s. s ++ (u ++ (zeros m ++ z))) (sym (zeros-append (64 * q) j))
      ∙ append_assoc (zeros (64 * q)) (zeros j) (u ++ (zeros m ++ z))
      ∙ ap (λ s. zeros (64 * q) ++ s)
      (ap (λ s. zeros j ++ s) (sym (append_assoc u (zeros m) z)) ∙ sym (append_assoc (zeros j) (u ++ zeros m) z) ∙ ap (λ s. s ++ z) word
      ∙ append_assoc (low_bits 64 x) (low_bits 64 y) z ∙ ap (λ s. low_bits 64 x ++ (low_bits 64 y ++ s)) (sym (zero_words_lem r)))
      ∙ behind q (x ∷ y ∷ zero_words r)

  length-row : (x : Place) → In n k x → length (row t x) ≡ k
  length-row (whole q r) i = simp (length-append, length-replicate) i.1
  length-row (across q j m r) i = simp (length-append, length-replicate) i.2

  length-rows : (xs : List Place) → AllIn n k xs → length (rows k t xs) ≡ k
  length-rows [] i = length-replicate k 0
  length-rows (x ∷ xs) i =
      let l : length (row t x) ≡ k = length-row x i.0 in
      length_sum (row t x) (rows k t xs) (l ∙ sym (length-rows xs i.1)) ∙ l

  pub spread-rows : (xs : List Place) → AllIn n k xs → spread n (map power xs) (low_bits 64 t) ≡ word_bits (rows k t xs)
  unfolding spread
  spread-rows [] i = ap zeros i ∙ sym (zero_words_lem k)
  spread-rows (x ∷ xs) i =
      ap₂ xor_bits (row-bits x i.0) (spread-rows xs i.1) ∙ words_xor (row t x) (rows k t xs) (length-row x i.0 ∙ sym (length-rows xs i.1))

-- a word folded, in words
pub folded-rows : (n k : ℕ) (xs : List Place) (a : ℕ) (ws : List ℕ) (word : ℕ) → AllIn n k xs → k ≡ length (ws ++ 0 ∷ []) → bit_xor a word < 2 ^ 64
    → folded_bits n (map power xs) (word_bits (a ∷ ws)) (low_bits 64 word) ≡ word_bits (xor_words (rows k (bit_xor a word) xs) (ws ++ 0 ∷ []))
folded-rows n k xs a ws word i e fits =
    let t = bit_xor a word in
    folded_words n (map power xs) a ws (rows k t xs) word (spread-rows n k t fits xs i) (length-rows n k t fits xs i ∙ e)
