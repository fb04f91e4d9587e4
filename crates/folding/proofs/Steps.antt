-- How a generator begins and how it folds a word: a register of some bits as what is yet to be added, and a word folded by a
-- multiple of the generator. Assumes nothing.
use mathlib.Core.Path.{◌≡◌, refl, sym, ap, ◌∙◌}
use Prim.Native.Nat.{ℕ, zero, suc, ◌+◌, ◌*◌, ◌^◌, ◌≤◌, ◌<◌}
use native.Mathlib.Nat.{div-eq_of_lt}
use native.Mathlib.Omega.{arith}
use mathlib.Core.Bool.{Bool}
use mathlib.Core.List.{List, [], ◌∷◌, ◌++◌, append_assoc, map}
use lib.Bits.{bit_xor}
use lib.ListN.{length, get_or, length-append}
use Rattle.bits.specs.Strings.{zeros}
use Rattle.bits.specs.Bytes.{low_bits, bits_of}
use Rattle.bits.proofs.Strings.{zeros-append}
use Rattle.bits.proofs.Bytes.{length-low_bits, low_bits-zero, low_bits-append}
use Rattle.registers.specs.Register.{entered, tabulate}
use Rattle.folding.specs.Fold.{word_bits, added}
use Rattle.folding.specs.Content.{Folded, FoldedAll}
use Rattle.folding.proofs.Added.{added-zeros, begins_added}
use Rattle.folding.proofs.Turn.{turns}
use Rattle.folding.proofs.Multiples.{Multiple}
use Rattle.folding.proofs.WordLaws.{xor_words, length_words, zero_words, placed}
use Rattle.folding.proofs.Rows.{Place, power, rows, AllIn, folded-rows}
use Rattle.folding.proofs.Contents.{ends_first}

-- a register of w bits is what is yet to be added to the first of k + 1 words
pub begun : {w : ℕ} {p : List Bool} {n : ℕ} {es : List ℕ} → Multiple w p n es → (j k reach start : ℕ) → w + j ≡ 64 → start < 2 ^ w
    → FoldedAll p reach (low_bits w start) [] (start ∷ zero_words k)
unfolding bits_of
begun {w} {p} multiple j k reach start word fits =
    let r = low_bits w start in
    let one : low_bits 64 start ≡ r ++ zeros j =
    ap (λ x. low_bits x start) (sym word) ∙ low_bits-append w j start ∙ ap (λ z. r ++ z) (ap (low_bits j) (div-eq_of_lt fits) ∙ low_bits-zero j) in
    let all : word_bits (start ∷ zero_words k) ≡ r ++ zeros (j + 64 * k) =
    sym (placed start k) ∙ ap (λ z. z ++ zeros (64 * k)) one ∙ append_assoc r (zeros j) (zeros (64 * k)) ∙ ap (λ z. r ++ z) (zeros-append j (64 * k)) in
    record {
      left = λ y h.
          ap (λ z. entered p (added z y)) all ∙ ap (entered p) (added-zeros r y (j + 64 * k))
          ∙ sym (begins_added p r y (length-low_bits w start ∙ sym multiple.width) (omega (arith, multiple.width)));
      within = λ n h. ends_first n start k h;
    }

in-words : (n k : ℕ) (xs : List Place) → AllIn n k xs → n ≡ 64 * k
in-words n k [] h = h
in-words n k (x ∷ xs) h = in-words n k xs h.1

-- a word folded by a multiple of the generator, whose powers are places in k words
pub folds : {w : ℕ} {p : List Bool} {n : ℕ} (xs : List Place) → Multiple w p n (map power xs) → (reach k : ℕ) (pending : List ℕ) (a : ℕ) (ws : List ℕ) (word : ℕ) (next : List ℕ)
    → pending ≡ a ∷ ws → n ≡ 8 * reach → AllIn n k xs → k ≡ length (ws ++ 0 ∷ []) → bit_xor a word < 2 ^ 64 → next ≡ xor_words (rows k (bit_xor a word) xs) (ws ++ 0 ∷ [])
    → 8 * length next ≤ reach → Folded p reach pending (low_bits 64 word) next
folds {w} {p} {n} xs multiple reach k pending a ws word next is size i long fits e short =
    let es = map power xs in
    let m = low_bits 64 word in
    let wide : 64 * suc (length ws) ≡ n = omega (arith, in-words n k xs i, long ∙ length-append ws (0 ∷ [])) in
    record {
      left = λ y h.
          ap (λ z. entered p (added (word_bits z) (m ++ y))) is
          ∙ turns p n es multiple.one multiple.far (word_bits (a ∷ ws)) m y (length_words (a ∷ ws) ∙ wide) (omega arith) (length-low_bits 64 word) (omega arith)
          ∙ ap (λ z. entered p (added z y)) (folded-rows n k xs a ws word i long fits ∙ ap word_bits (sym e));
      within = short;
    }

-- ---- an array as the list of its elements

tabulate_suc : (f : ℕ → ℕ) (i n : ℕ) → tabulate f (suc i) n ≡ tabulate (λ k. f (suc k)) i n
tabulate_suc f i zero = refl
tabulate_suc f i (suc n) = ap (λ l. f (suc i) ∷ l) (tabulate_suc f (suc i) n)

pub listed : (n : ℕ) (xs : List ℕ) → length xs ≡ n → xs ≡ tabulate (λ i. get_or xs i 0) 0 n
listed zero [] h = refl
listed zero (x ∷ xs) h = absurd (omega arith)
listed (suc n) [] h = absurd (omega arith)
listed (suc n) (x ∷ xs) h = ap (λ l. x ∷ l) (listed n xs (omega arith) ∙ sym (tabulate_suc (λ i. get_or (x ∷ xs) i 0) 0 n))
