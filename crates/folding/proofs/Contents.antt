-- The steps over a content, for every generator and every number of words: words folded away, words entered, bytes entered. Each
-- has what is left, with what is yet to be added to it, give the whole. Assumes nothing.
use mathlib.Core.Path.{◌≡◌, refl, sym, ap, ap₂, ◌∙◌}
use Prim.Native.Nat.{ℕ, zero, suc, ◌+◌, ◌-◌, ◌*◌, ◌/◌, ◌≤◌, ◌<◌}
use native.Mathlib.Nat.{sub-zero}
use native.Mathlib.Numerals.{add-one}
use native.Mathlib.Omega.{arith}
use mathlib.Core.Bool.{Bool}
use mathlib.Core.List.{List, [], ◌∷◌, ◌++◌, append_assoc, append-nil}
use lib.Bits.{bit_xor}
use lib.ListN.{length, take, drop, get_or, length-append, length-take, take-append-drop, drop_of_length-le}
use lib.Seq.{drop-cons, drop-drop}
use Rattle.std.specs.List.{concat}
use Rattle.std.specs.Simd.{first_chunks}
use Rattle.std.proofs.lemmas.List.{take_more}
use Rattle.std.proofs.lemmas.List.Folds.{concat-append}
use Rattle.bits.specs.Strings.{zeros}
use Rattle.bits.specs.Bytes.{low_bits, bits_of}
use Rattle.bits.proofs.Bytes.{length-low_bits, low_bits-xor, length-bits_of, bits_of_one, bits_of-append}
use Rattle.registers.specs.Register.{enter, entered}
use Rattle.registers.proofs.Enter.{enter-append}
use Rattle.folding.specs.Fold.{word_bits, added, EndsWithin}
use Rattle.folding.specs.Content.{Folded, room, FoldedAll, EnteredAll}
use Rattle.folding.proofs.Added.{added_none, added-append, added-zeros}
use Rattle.folding.proofs.WordLaws.{zero_words, zero_words_lem, shift_words}

-- ---- where what is yet to be added ends

pub ends_long : (n : ℕ) (ws : List ℕ) → length ws ≤ n → EndsWithin n ws
unfolding EndsWithin
ends_long n [] h = tt
ends_long zero (w ∷ ws) h = absurd (omega arith)
ends_long (suc n) (w ∷ ws) h = ends_long n ws (omega arith)

ends_zeros : (n k : ℕ) → EndsWithin n (zero_words k)
unfolding EndsWithin
ends_zeros n zero = tt
ends_zeros zero (suc k) = (refl, ends_zeros zero k)
ends_zeros (suc n) (suc k) = ends_zeros n k

pub ends_first : (n w k : ℕ) → 1 ≤ n → EndsWithin n (w ∷ zero_words k)
unfolding EndsWithin
ends_first zero w k pos = absurd (omega arith)
ends_first (suc n) w k pos = ends_zeros n k

ends_behind : (n : ℕ) (ws : List ℕ) → EndsWithin n ws → EndsWithin n (ws ++ 0 ∷ [])
unfolding EndsWithin
ends_behind zero [] h = (refl, tt)
ends_behind (suc n) [] h = tt
ends_behind zero (w ∷ ws) h = (h.0, ends_behind zero ws h.1)
ends_behind (suc n) (w ∷ ws) h = ends_behind n ws h

-- one word behind the first
ends_on : (n m a : ℕ) (ws next : List ℕ) → ws ++ 0 ∷ [] ≡ a ∷ next → n ≡ suc m → EndsWithin n ws → EndsWithin m next
unfolding EndsWithin
ends_on n m a ws next s e h = rw (e, s) at (ends_behind n ws h)

all-zero : (ws : List ℕ) → EndsWithin zero ws → ws ≡ zero_words (length ws)
unfolding EndsWithin
all-zero [] h = refl
all-zero (w ∷ ws) h = ap₂ (λ x xs. x ∷ xs) h.0 (all-zero ws h.1)

nothing_left : (ws : List ℕ) (m : List Bool) → EndsWithin zero ws → added (word_bits ws) m ≡ m
nothing_left ws m h = ap (λ x. added x m) (ap word_bits (all-zero ws h) ∙ zero_words_lem (length ws)) ∙ added_none (64 * length ws) m

-- ---- bytes entered

pub bytes_behind : (p r : List Bool) (before bytes : List ℕ) → enter p (enter p r (bits_of before)) (bits_of bytes) ≡ enter p r (bits_of (before ++ bytes))
bytes_behind p r before bytes = sym (enter-append p r (bits_of before) (bits_of bytes)) ∙ ap (enter p r) (sym (bits_of-append before bytes))

pub next_byte : (p r : List Bool) (bytes : List ℕ) (i : ℕ) → i < length bytes
    → enter p (enter p r (bits_of (take i bytes))) (low_bits 8 (get_or bytes i 0)) ≡ enter p r (bits_of (take (i + 1) bytes))
next_byte p r bytes i below =
    let b = get_or bytes i 0 in
    ap (enter p (enter p r (bits_of (take i bytes)))) (sym (bits_of_one b)) ∙ bytes_behind p r (take i bytes) (b ∷ [])
    ∙ ap (λ s. enter p r (bits_of s)) (sym (take_more bytes i 0 below))

-- ---- words folded away

room-le : (reach n : ℕ) → room reach n ≤ 64 + 8 * reach
room-le reach zero = omega arith
room-le reach (suc n) = omega arith

-- one word more
folded_more : {p r : List Bool} {reach : ℕ} {ws : List (List ℕ)} {pending next : List ℕ} (c : List ℕ) (word : ℕ) → FoldedAll p reach r ws pending → low_bits 64 word ≡ bits_of c
    → Folded p reach pending (low_bits 64 word) next → FoldedAll p reach r (ws ++ c ∷ []) next
folded_more {p} {r} {reach} {ws} {pending} {next} c word f e o =
    let m = low_bits 64 word in
    let more : length (ws ++ c ∷ []) ≡ suc (length ws) = simp length-append (omega arith) in
    record {
      left = λ y h.
          let l : 8 * reach ≤ length y = rw more at h in
          let k : length (m ++ y) ≡ 64 + length y = length-append m y ∙ ap (λ n. n + length y) (length-low_bits 64 word) in
          sym (o.left y l) ∙ f.left (m ++ y) (omega (arith, room-le reach (length ws)))
          ∙ ap (enter p r)
          (ap (λ z. bits_of (concat ws) ++ (z ++ y)) (e ∙ ap bits_of (sym (append-nil c))) ∙ sym (append_assoc (bits_of (concat ws)) (bits_of (c ++ [])) y)
          ∙ ap (λ z. z ++ y) (sym (bits_of-append (concat ws) (c ++ [])) ∙ ap bits_of (sym (concat-append ws (c ∷ [])))));
      within = λ n h. let l : 8 * reach / 64 ≤ n = rw more at h in ends_long n next (omega (arith, o.within));
    }

pub folded_next : {p r : List Bool} {reach : ℕ} {pending next : List ℕ} (words : List (List ℕ)) (i : ℕ) (d : List ℕ) (word : ℕ) → FoldedAll p reach r (take i words) pending → i < length words
    → low_bits 64 word ≡ bits_of (get_or words i d) → Folded p reach pending (low_bits 64 word) next → FoldedAll p reach r (take (i + 1) words) next
folded_next {p} {r} {reach} {next = next} words i d word f below e o = rw (take_more words i d below) (folded_more (get_or words i d) word f e o)

-- ---- words entered from one on, each with what is yet to be added to it

pub record Entering (p : List Bool) (first : List ℕ) (words : List (List ℕ)) (register : List Bool) (pending : List ℕ) (i : ℕ) : Type 0 where
  pub within : i ≤ length words
  pub left : (y : List Bool) → enter p register (added (word_bits pending) (bits_of (concat (drop i words)) ++ y)) ≡ entered p (added (word_bits first) (bits_of (concat words) ++ y))
  pub ends : EndsWithin (length words) first → EndsWithin (length words - i) pending

pub entering_first : (p : List Bool) (first : List ℕ) (words : List (List ℕ)) (register : List Bool) → register ≡ zeros (length p) → Entering p first words register first 0
entering_first p first words register e =
    record { within = omega arith; left = λ y. ap (λ r. enter p r (added (word_bits first) (bits_of (concat words) ++ y))) e; ends = λ h. rw sub-zero h }

pub entering_next : {p : List Bool} {first : List ℕ} {words : List (List ℕ)} {register : List Bool} {pending : List ℕ} {i : ℕ} (d : List ℕ) (a word : ℕ) (next : List ℕ) (r : List Bool)
    → Entering p first words register pending i → i < length words → pending ++ 0 ∷ [] ≡ a ∷ next → low_bits 64 word ≡ bits_of (get_or words i d)
    → r ≡ enter p register (low_bits 64 (bit_xor a word)) → Entering p first words r next (i + 1)
unfolding word_bits
entering_next {p} {first} {words} {register} {pending} {i} d a word next r h below s e f =
    let c = get_or words i d in
    let m = bits_of (concat (drop (i + 1) words)) in
    let x = low_bits 64 (bit_xor a word) in
    let u = low_bits 64 a in
    let v = low_bits 64 word in
    let here : bits_of (concat (drop i words)) ≡ v ++ m =
    ap (λ z. bits_of (concat z)) (drop-cons words i d below ∙ ap (λ k. c ∷ drop k words) (sym (add-one i)))
    ∙ bits_of-append c (concat (drop (i + 1) words)) ∙ ap (λ z. z ++ m) (sym e) in
    record {
      within = omega arith;
      left = λ y.
          let w = m ++ y in
          ap (λ z. enter p z (added (word_bits next) w)) f ∙ sym (enter-append p register x (added (word_bits next) w))
          ∙ ap (enter p register)
          (ap (λ z. z ++ added (word_bits next) w) (low_bits-xor 64 a word)
          ∙ sym (added-append u (word_bits next) v w (length-low_bits 64 a ∙ sym (length-low_bits 64 word)))
          ∙ ap (λ z. added z (v ++ w)) (ap word_bits (sym s) ∙ sym (shift_words pending)) ∙ added-zeros (word_bits pending) (v ++ w) 64
          ∙ ap (added (word_bits pending)) (sym (append_assoc v m y) ∙ ap (λ z. z ++ y) (sym here)))
          ∙ h.left y;
      ends = λ k. ends_on (length words - i) (length words - (i + 1)) a pending next s (omega arith) (h.ends k);
    }

pub entering_all : {p : List Bool} {first : List ℕ} {words : List (List ℕ)} {register : List Bool} {pending : List ℕ} {i : ℕ} → Entering p first words register pending i → length words ≤ i
    → EnteredAll p first words register
unfolding bits_of
entering_all {p} {words = words} {register = register} {pending = pending} {i = i} h end k y =
    let none : length words - i ≡ 0 = omega arith in
    ap (enter p register) (sym (nothing_left pending y (rw none at (h.ends k))))
    ∙ ap (λ z. enter p register (added (word_bits pending) (bits_of (concat z) ++ y))) (sym (drop_of_length-le words end)) ∙ h.left y

-- ---- a content cut into words

chunks : (k : ℕ) (xs : List ℕ) → concat (first_chunks 8 k xs) ++ drop (k * 8) xs ≡ xs
chunks zero xs = refl
chunks (suc k) xs =
    let s : suc k * 8 ≡ 8 + k * 8 = omega arith in
    append_assoc (take 8 xs) (concat (first_chunks 8 k (drop 8 xs))) (drop (suc k * 8) xs)
    ∙ ap (λ z. take 8 xs ++ (concat (first_chunks 8 k (drop 8 xs)) ++ z)) (ap (λ n. drop n xs) s ∙ sym (drop-drop (k * 8) 8 xs))
    ∙ ap (λ z. take 8 xs ++ z) (chunks k (drop 8 xs)) ∙ take-append-drop 8 xs

-- at most eight bytes to each
length_chunks : (n k : ℕ) (xs : List ℕ) → length (concat (take n (first_chunks 8 k xs))) ≤ 8 * n
length_chunks zero k xs = omega arith
length_chunks (suc n) zero xs = omega arith
length_chunks (suc n) (suc k) xs =
    omega (arith, length_chunks n k (drop 8 xs), length-append (take 8 xs) (concat (take n (first_chunks 8 k (drop 8 xs)))), length-take 8 xs)

-- the words that are folded, those that are entered, and the last bytes are the content
pub parts : (n k : ℕ) (xs : List ℕ) → bits_of (concat (take n (first_chunks 8 k xs))) ++ (bits_of (concat (drop n (first_chunks 8 k xs))) ++ bits_of (drop (k * 8) xs)) ≡ bits_of xs
parts n k xs =
    let ws = first_chunks 8 k xs in
    sym (append_assoc (bits_of (concat (take n ws))) (bits_of (concat (drop n ws))) (bits_of (drop (k * 8) xs)))
    ∙ ap (λ z. z ++ bits_of (drop (k * 8) xs))
    (sym (bits_of-append (concat (take n ws)) (concat (drop n ws))) ∙ ap bits_of (sym (concat-append (take n ws) (drop n ws)) ∙ ap concat (take-append-drop n ws)))
    ∙ sym (bits_of-append (concat ws) (drop (k * 8) xs)) ∙ ap bits_of (chunks k xs)

room-bits : (reach n size : ℕ) → 8 ≤ size → (0 < n → 8 * n + reach ≤ size) → room reach n ≤ 8 * (size - 8 * n)
room-bits reach zero size long h = omega arith
room-bits reach (suc n) size long h = let l = h (omega arith) in omega arith

room-words : (reach n size : ℕ) → 8 ≤ size → (0 < n → 8 * n + reach ≤ size) → room reach n / 64 ≤ size / 8 - n
room-words reach zero size long h = omega arith
room-words reach (suc n) size long h = let l = h (omega arith) in omega arith

-- n of the words are folded and the rest are entered, then the last bytes
pub whole : (p r register : List Bool) (reach n : ℕ) (content : List ℕ) {pending : List ℕ} (words front rest : List (List ℕ)) (tail : List ℕ)
    → words ≡ first_chunks 8 (length content / 8) content → tail ≡ drop (length content / 8 * 8) content → front ≡ take n words → rest ≡ drop n words
    → length front ≡ n → length rest + n ≡ length content / 8 → 8 ≤ length content → (0 < n → 8 * n + reach ≤ length content)
    → FoldedAll p reach r front pending → EnteredAll p pending rest register → enter p register (bits_of tail) ≡ enter p r (bits_of content)
whole p r register reach n content {pending} words front rest tail w t f b lf lb long enough o e =
    let k = length content / 8 in
    let y = bits_of (concat rest) ++ bits_of tail in
    let m = bits_of (concat front) in
    let ff : front ≡ take n (first_chunks 8 k content) = f ∙ ap (take n) w in
    let all : m ++ y ≡ bits_of content = rw (ff, b, w, t) (parts n k content) in
    let short : length (concat front) ≤ 8 * n = rw ff (length_chunks n k content) in
    let size : 8 * length (concat front) + length y ≡ 8 * length content = sym (length-append m y ∙ ap (λ i. i + length y) (length-bits_of (concat front))) ∙ ap length all ∙ length-bits_of content in
    let at : room reach (length front) ≤ 8 * (length content - 8 * n) = rw lf (room-bits reach n (length content) long enough) in
    let within : room reach (length front) / 64 ≤ length content / 8 - n = rw lf (room-words reach n (length content) long enough) in
    e (o.within (length rest) (omega arith)) (bits_of tail) ∙ o.left y (omega arith) ∙ ap (enter p r) all
