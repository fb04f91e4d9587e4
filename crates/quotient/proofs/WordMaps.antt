-- Maps of words that are built of shifts and sums keep sums, so one that is right at each single bit is right at every word.
-- Assumes nothing.
use mathlib.Core.Path.{◌≡◌, refl, sym, ap, ap₂, ◌∙◌}
use Prim.Native.Nat.{ℕ, zero, suc, ◌+◌, ◌*◌, ◌/◌, ◌%◌, ◌^◌, ◌≤◌, ◌<◌, ◌-◌, max}
use native.Mathlib.Numerals.{one-add}
use native.Mathlib.Nat.{add-zero, zero-mul, one-mul, pow-suc, mod-lt, div-add-mod', div-eq_of_lt, lt_of_lt_of_le, le_of_eq, le-max_left, le-max_right}
use native.Mathlib.Omega.{arith}
use mathlib.Core.Bool.{Bool, true, false}
use mathlib.Core.List.{List, [], ◌++◌, append-nil}
use lib.Bits.{bit_xor, xor_lt, xor_shifted, xor_self, xor_block, xor_shr, xor_mod}
use lib.Dec.{T, leb}
use borrow.Author.Tests.{leb-true, leb-false}
use lib.ListN.{length}
use lib.Pow.{pow_pos, pow_mono, shr_lt}
use Rattle.bits.specs.Strings.{xor_bits, zeros, same}
use Rattle.bits.specs.Bytes.{low_bits}
use Rattle.bits.proofs.Strings.{same_sound, xor_bits_four}
use Rattle.bits.proofs.Bytes.{length-low_bits, low_bits-append, low_bits-xor, low_bits-zero, low_bits_injective}
use Rattle.bits.proofs.Tests.{every, every_at}
use Rattle.registers.specs.Register.{enter, entered}
use Rattle.quotient.specs.WordMaps.{WordMap, whole, up, down, sum, onward, number}
use Rattle.registers.proofs.Entered.{entered-xor, entered-zeros, begins}

-- ---- sums of numbers, bit by bit

below_power : (n : ℕ) → n < 2 ^ n
below_power zero = omega arith
below_power (suc n) = omega (arith, below_power n, pow-suc 2 n)

sums_four : (a b c d : ℕ) → bit_xor (bit_xor a b) (bit_xor c d) ≡ bit_xor (bit_xor a c) (bit_xor b d)
sums_four a b c d =
    low_bits_injective w (bit_xor (bit_xor a b) (bit_xor c d)) (bit_xor (bit_xor a c) (bit_xor b d))
    (xor_lt w (bit_xor a b) (bit_xor c d) (xor_lt w a b la lb) (xor_lt w c d lc ld))
    (xor_lt w (bit_xor a c) (bit_xor b d) (xor_lt w a c la lc) (xor_lt w b d lb ld))
    (apart a b c d ∙ xor_bits_four (low_bits w a) (low_bits w b) (low_bits w c) (low_bits w d) ∙ sym (apart a c b d))
  where
    w : ℕ
    w = a + b + c + d

    fits : (n : ℕ) → n ≤ w → n < 2 ^ w
    fits n h = lt_of_lt_of_le (below_power n) (pow_mono h)

    la : a < 2 ^ w
    la = fits a (omega arith)

    lb : b < 2 ^ w
    lb = fits b (omega arith)

    lc : c < 2 ^ w
    lc = fits c (omega arith)

    ld : d < 2 ^ w
    ld = fits d (omega arith)

    apart : (x y z u : ℕ) → low_bits w (bit_xor (bit_xor x y) (bit_xor z u)) ≡ xor_bits (xor_bits (low_bits w x) (low_bits w y)) (xor_bits (low_bits w z) (low_bits w u))
    apart x y z u = low_bits-xor w (bit_xor x y) (bit_xor z u) ∙ ap₂ xor_bits (low_bits-xor w x y) (low_bits-xor w z u)

times_power : (k x y : ℕ) → bit_xor x y * 2 ^ k ≡ bit_xor (x * 2 ^ k) (y * 2 ^ k)
times_power k x y =
    sym (ap₂ bit_xor (sym (add-zero (x * 2 ^ k))) (sym (add-zero (y * 2 ^ k))) ∙ xor_block k x y 0 0 (pow_pos k) (pow_pos k) ∙ add-zero (bit_xor x y * 2 ^ k))

-- ---- a map of words keeps sums

pub number-xor : (m : WordMap) (a b : ℕ) → number m (bit_xor a b) ≡ bit_xor (number m a) (number m b)
number-xor whole a b = refl
number-xor (up k m) a b =
    let x = number m a in
    let y = number m b in
    ap (λ z. (z * 2 ^ k) % 2 ^ 64) (number-xor m a b) ∙ ap (λ z. z % 2 ^ 64) (times_power k x y) ∙ xor_mod (x * 2 ^ k) (y * 2 ^ k) 64
number-xor (down k m) a b = ap (λ z. z / 2 ^ k) (number-xor m a b) ∙ xor_shr (number m a) (number m b) k
number-xor (sum m n) a b = ap₂ bit_xor (number-xor m a b) (number-xor n a b) ∙ sums_four (number m a) (number m b) (number n a) (number n b)
number-xor (onward m n) a b = ap (number n) (number-xor m a b) ∙ number-xor n (number m a) (number m b)

number-zero : (m : WordMap) → number m 0 ≡ 0
number-zero m = number-xor m 0 0 ∙ xor_self (number m 0)

-- ---- how many bits a map leaves of a word of n bits

abbrev pub width : ℕ → WordMap → ℕ
width n whole = n
width n (up k m) = 64
width n (down k m) = width n m - k
width n (sum a b) = max (width n a) (width n b)
width n (onward a b) = width (width n a) b

shifted_down : (n k x : ℕ) → x < 2 ^ n → x / 2 ^ k < 2 ^ (n - k)
shifted_down n k x h = go (leb k n) refl
  where
    go : (t : Bool) → leb k n ≡ t → x / 2 ^ k < 2 ^ (n - k)
    go true e = let l = leb-true k n e in let s : n ≡ (n - k) + k = omega arith in shr_lt (n - k) k (lt_of_lt_of_le h (le_of_eq (ap (λ i. 2 ^ i) s)))
    go false e =
        let l = leb-false k n e in
        let z : n - k ≡ 0 = omega arith in
        let small : x < 2 ^ k = lt_of_lt_of_le h (pow_mono (omega arith)) in
        rw (z, div-eq_of_lt small) (omega arith)

pub number_fits : (m : WordMap) (n t : ℕ) → t < 2 ^ n → number m t < 2 ^ width n m
number_fits whole n t h = h
number_fits (up k m) n t h = mod-lt (number m t * 2 ^ k) (pow_pos 64)
number_fits (down k m) n t h = shifted_down (width n m) k (number m t) (number_fits m n t h)
number_fits (sum a b) n t h =
    let x = width n a in
    let y = width n b in
    xor_lt (max x y) (number a t) (number b t)
    (lt_of_lt_of_le (number_fits a n t h) (pow_mono (le-max_left x y))) (lt_of_lt_of_le (number_fits b n t h) (pow_mono (le-max_right x y)))
number_fits (onward a b) n t h = number_fits b (width n a) (number a t) (number_fits a n t h)

-- ---- two maps into strings that keep sums

abbrev Additive : (ℕ → List Bool) → Type 0
Additive f = (a b : ℕ) → f (bit_xor a b) ≡ xor_bits (f a) (f b)

agree : (f g : ℕ → List Bool) → Additive f → Additive g → f 0 ≡ g 0 → (n : ℕ) → ((k : ℕ) → k < n → f (2 ^ k) ≡ g (2 ^ k)) → (t : ℕ) → t < 2 ^ n → f t ≡ g t
agree f g af ag none zero units t h = let e : t ≡ 0 = omega arith in ap f e ∙ none ∙ ap g (sym e)
agree f g af ag none (suc n) units t h =
    ap f (sym parts) ∙ af (a * 2 ^ n) b
    ∙ ap₂ xor_bits (bit a (shr_lt 1 n (rw (one-add n) h))) (agree f g af ag none n (λ k l. units k (omega arith)) b (mod-lt t (pow_pos n)))
    ∙ sym (ag (a * 2 ^ n) b) ∙ ap g parts
  where
    a : ℕ
    a = t / 2 ^ n

    b : ℕ
    b = t % 2 ^ n

    parts : bit_xor (a * 2 ^ n) b ≡ t
    parts = xor_shifted a n b (mod-lt t (pow_pos n)) ∙ div-add-mod' t (2 ^ n)

    bit : (x : ℕ) → x < 2 ^ 1 → f (x * 2 ^ n) ≡ g (x * 2 ^ n)
    bit zero l = ap f (zero-mul (2 ^ n)) ∙ none ∙ ap g (sym (zero-mul (2 ^ n)))
    bit (suc zero) l = ap f (one-mul (2 ^ n)) ∙ units n (omega arith) ∙ ap g (sym (one-mul (2 ^ n)))
    bit (suc (suc x)) l = absurd (omega arith)

-- ---- a word entered by its quotient

-- the map takes each single bit to what the bit leaves in an empty register of w bits
unfoldable pub at_each_bit : ℕ → List Bool → WordMap → Bool
at_each_bit w p m = every 64 (λ k. same (low_bits w (number m (2 ^ k))) (entered p (low_bits 64 (2 ^ k))))

module _ (w j : ℕ) (p : List Bool) (m : WordMap) (wide : length p ≡ w) (sixty-four : w + j ≡ 64) (right : T (at_each_bit w p m)) where
  in_empty : (t : ℕ) → t < 2 ^ 64 → low_bits w (number m t) ≡ entered p (low_bits 64 t)
  unfolding at_each_bit
  in_empty =
      agree (λ t. low_bits w (number m t)) (λ t. entered p (low_bits 64 t))
      (λ a b. ap (low_bits w) (number-xor m a b) ∙ low_bits-xor w (number m a) (number m b))
      (λ a b. ap (entered p) (low_bits-xor 64 a b) ∙ entered-xor p (low_bits 64 a) (low_bits 64 b) (length-low_bits 64 a ∙ sym (length-low_bits 64 b)))
      (ap (low_bits w) (number-zero m) ∙ low_bits-zero w ∙ sym (ap (entered p) (low_bits-zero 64) ∙ entered-zeros p 64 ∙ ap zeros wide))
      64
      (λ k h. same_sound (low_bits w (number m (2 ^ k))) (entered p (low_bits 64 (2 ^ k)))
      (every_at 64 (λ i. same (low_bits w (number m (2 ^ i))) (entered p (low_bits 64 (2 ^ i)))) right k h))

  pub word_enters : (register word : ℕ) → register < 2 ^ w → word < 2 ^ 64 → low_bits w (number m (bit_xor register word)) ≡ enter p (low_bits w register) (low_bits 64 word)
  word_enters register word fits small =
      let r = low_bits w register in
      let v = low_bits 64 word in
      let narrow : w ≤ 64 = omega arith in
      let long : low_bits 64 register ≡ r ++ zeros j =
      ap (λ n. low_bits n register) (sym sixty-four) ∙ low_bits-append w j register
      ∙ ap (λ z. r ++ z) (ap (low_bits j) (div-eq_of_lt fits) ∙ low_bits-zero j) in
      in_empty (bit_xor register word) (xor_lt 64 register word (lt_of_lt_of_le fits (pow_mono narrow)) small)
      ∙ ap (entered p) (low_bits-xor 64 register word ∙ ap (λ z. xor_bits z v) long)
      ∙ ap (entered p) (sym (append-nil (xor_bits (r ++ zeros j) v)))
      ∙ sym (begins p r v [] j (length-low_bits w register ∙ sym wide) (length-low_bits 64 word ∙ sym sixty-four ∙ ap (λ n. n + j) (sym wide)))
      ∙ ap (enter p r) (append-nil v)
