-- Laws of numbers and bytes as bit strings. Assumes nothing.
use mathlib.Core.Path.{◌≡◌, refl, sym, ap, ap₂, ◌∙◌}
use Prim.Native.Nat.{ℕ, zero, suc, ◌+◌, ◌*◌, ◌/◌, ◌%◌, ◌^◌, ◌<◌}
use native.Mathlib.Omega.{arith}
use native.Mathlib.Nat.{mod-eq_of_lt, div-eq_of_lt, pow-suc, zero-add, suc-add, div-one}
use native.Mathlib.Numerals.{add-one, one-add}
use mathlib.Core.Bool.{Bool, true, false, true≢false, xor, cond}
use mathlib.Core.List.{List, [], ◌∷◌, ◌++◌, append_assoc, append-nil}
use borrow.Author.Tests.{eqb-true, eqb-false}
use lib.Dec.{T, eqb}
use lib.Bits.{bit_xor, xor_mod, xor_shr}
use lib.Pow.{shr-shr, field, mod-mod-pow, mod-pow-add}
use lib.ListN.{length, length-append, get_or}
use Rattle.bits.specs.Strings.{xor_bits, zeros, ones, invert, same}
use Rattle.bits.specs.Bytes.{low_bits, bits_of, Bytes, value}
use Rattle.bits.proofs.Strings.{append_split, invert-xor, xor_bits-append, xor_bits_comm, same_sound, same_self}

-- the elements of a slice are bytes
pub bytes_of : (bs : List ℕ) → ((i : ℕ) → get_or bs i 0 < 256) → Bytes bs
bytes_of [] small = tt
bytes_of (b ∷ bs) small = (small 0, bytes_of bs (λ i. small (suc i)))

-- ---- low_bits

pub length-low_bits : (w n : ℕ) → length (low_bits w n) ≡ w
unfolding low_bits
length-low_bits zero n = refl
length-low_bits (suc w) n = ap suc (length-low_bits w (n / 2))

pub low_bits-zero : (w : ℕ) → low_bits w 0 ≡ zeros w
unfolding low_bits
low_bits-zero zero = refl
low_bits-zero (suc w) = ap (λ z. false ∷ z) (low_bits-zero w)

-- the bits of a number in two parts
pub low_bits-append : (j k n : ℕ) → low_bits (j + k) n ≡ low_bits j n ++ low_bits k (n / 2 ^ j)
unfolding low_bits
low_bits-append zero k n = ap₂ low_bits (zero-add k) (sym (div-one n))
low_bits-append (suc j) k n =
    ap (λ w. low_bits w n) (suc-add j k)
    ∙ ap (λ z. eqb (n % 2) 1 ∷ z)
    (low_bits-append j k (n / 2) ∙ ap (λ x. low_bits j (n / 2) ++ low_bits k x) (shr-shr n 1 j ∙ ap (λ x. n / 2 ^ x) (one-add j)))

-- what lies above the w low bits is not seen
pub low_bits-mod : (w n : ℕ) → low_bits w (n % 2 ^ w) ≡ low_bits w n
unfolding low_bits
low_bits-mod zero n = refl
low_bits-mod (suc w) n =
    ap (λ k. low_bits (suc w) (n % 2 ^ k)) (sym (add-one w))
    ∙ ap₂ (λ x z. eqb x 1 ∷ z) (mod-mod-pow n w 1) (ap (low_bits w) (field n w 1) ∙ low_bits-mod w (n / 2))

-- the bits of the exclusive or of two numbers
differ_bit : (x y : ℕ) → x < 2 → y < 2 → eqb (bit_xor x y) 1 ≡ xor (eqb x 1) (eqb y 1)
unfolding xor
differ_bit zero zero h k = refl
differ_bit zero (suc zero) h k = refl
differ_bit zero (suc (suc y)) h k = absurd (omega arith)
differ_bit (suc zero) zero h k = refl
differ_bit (suc zero) (suc zero) h k = refl
differ_bit (suc zero) (suc (suc y)) h k = absurd (omega arith)
differ_bit (suc (suc x)) y h k = absurd (omega arith)

pub low_bits-xor : (w m n : ℕ) → low_bits w (bit_xor m n) ≡ xor_bits (low_bits w m) (low_bits w n)
unfolding low_bits
low_bits-xor zero m n = refl
low_bits-xor (suc w) m n =
    ap₂ (λ x z. x ∷ z)
    (ap (λ x. eqb x 1) (xor_mod m n 1) ∙ differ_bit (m % 2) (n % 2) (omega arith) (omega arith))
    (ap (low_bits w) (xor_shr m n 1) ∙ low_bits-xor w (m / 2) (n / 2))

-- against a number whose bits are all ones
pub low_bits-invert : (w n k : ℕ) → low_bits w k ≡ ones w → low_bits w (bit_xor n k) ≡ invert (low_bits w n)
low_bits-invert w n k all =
    low_bits-xor w n k ∙ xor_bits_comm (low_bits w n) (low_bits w k)
    ∙ ap (λ z. xor_bits z (low_bits w n)) (all ∙ ap ones (sym (length-low_bits w n))) ∙ sym (invert-xor (low_bits w n))

-- ---- value

pub value_lt : (s : List Bool) → value s < 2 ^ length s
unfolding value
value_lt [] = omega arith
value_lt (true ∷ s) = omega (arith, value_lt s, pow-suc 2 (length s))
value_lt (false ∷ s) = omega (arith, value_lt s, pow-suc 2 (length s))

pub value_snoc : (s : List Bool) (b : Bool) → value (s ++ b ∷ []) ≡ value s + cond b (2 ^ length s) 0
unfolding value
value_snoc [] true = refl
value_snoc [] false = refl
value_snoc (a ∷ s) true = omega (arith, value_snoc s true, pow-suc 2 (length s))
value_snoc (a ∷ s) false = omega (arith, value_snoc s false, pow-suc 2 (length s))

-- a string is the bits of its value
pub low_bits-value : (s : List Bool) → low_bits (length s) (value s) ≡ s
unfolding low_bits value
low_bits-value [] = refl
low_bits-value (b ∷ s) =
    ap₂ (λ x y. x ∷ low_bits (length s) y) (first b) (rest b) ∙ ap (λ z. b ∷ z) (low_bits-value s)
  where
    first : (c : Bool) → eqb ((cond c 1 0 + 2 * value s) % 2) 1 ≡ c
    first true = ap (λ x. eqb x 1) {x = (1 + 2 * value s) % 2} {y = 1} (omega arith)
    first false = ap (λ x. eqb x 1) {x = (0 + 2 * value s) % 2} {y = 0} (omega arith)

    rest : (c : Bool) → (cond c 1 0 + 2 * value s) / 2 ≡ value s
    rest true = omega arith
    rest false = omega arith

-- and with zeros behind it, the bits of its value at a greater width
pub low_bits-value-zeros : (s : List Bool) (k : ℕ) → low_bits (length s + k) (value s) ≡ s ++ zeros k
low_bits-value-zeros s k =
    low_bits-append (length s) k (value s) ∙ ap₂ (λ x y. x ++ low_bits k y) (low_bits-value s) (div-eq_of_lt (value_lt s)) ∙ ap (λ z. s ++ z) (low_bits-zero k)

odd_bit : (d : ℕ) → d < 2 → cond (eqb d 1) 1 0 ≡ d
odd_bit zero h = refl
odd_bit (suc zero) h = refl
odd_bit (suc (suc d)) h = absurd (omega arith)

pub value-low_bits : (w n : ℕ) → value (low_bits w n) ≡ n % 2 ^ w
unfolding low_bits value
value-low_bits zero n = omega arith
value-low_bits (suc w) n =
    ap₂ (λ x y. x + 2 * y) (odd_bit (n % 2) (omega arith)) (value-low_bits w (n / 2))
    ∙ omega (arith, mod-pow-add n w 1, ap (λ k. n % 2 ^ k) (add-one w))

-- a number of w bits is known by them
pub low_bits_injective : (w m n : ℕ) → m < 2 ^ w → n < 2 ^ w → low_bits w m ≡ low_bits w n → m ≡ n
low_bits_injective w m n h k e =
    sym (mod-eq_of_lt h) ∙ sym (value-low_bits w m) ∙ ap value e ∙ value-low_bits w n ∙ mod-eq_of_lt k

-- ---- bits_of

pub length-bits_of : (bs : List ℕ) → length (bits_of bs) ≡ 8 * length bs
unfolding bits_of
length-bits_of [] = refl
length-bits_of (b ∷ bs) = length-append (low_bits 8 b) (bits_of bs) ∙ omega (arith, length-low_bits 8 b, length-bits_of bs)

pub bits_of_one : (b : ℕ) → bits_of (b ∷ []) ≡ low_bits 8 b
unfolding bits_of
bits_of_one b = append-nil (low_bits 8 b)

pub bits_of-append : (a b : List ℕ) → bits_of (a ++ b) ≡ bits_of a ++ bits_of b
unfolding bits_of
bits_of-append [] b = refl
bits_of-append (x ∷ a) b = ap (λ z. low_bits 8 x ++ z) (bits_of-append a b) ∙ sym (append_assoc (low_bits 8 x) (bits_of a) (bits_of b))

-- the sum of two byte strings, a byte at a time
pub bits_of-xor : (a b : ℕ) (x y : List ℕ) → xor_bits (bits_of (a ∷ x)) (bits_of (b ∷ y)) ≡ xor_bits (low_bits 8 a) (low_bits 8 b) ++ xor_bits (bits_of x) (bits_of y)
unfolding bits_of
bits_of-xor a b x y = xor_bits-append (low_bits 8 a) (low_bits 8 b) (bits_of x) (bits_of y) (length-low_bits 8 a ∙ sym (length-low_bits 8 b))

pub bits_of_injective : (a b : List ℕ) → Bytes a → Bytes b → length a ≡ length b → bits_of a ≡ bits_of b → a ≡ b
unfolding bits_of
bits_of_injective [] [] p q h e = refl
bits_of_injective [] (y ∷ b) p q h e = absurd (omega arith)
bits_of_injective (x ∷ a) [] p q h e = absurd (omega arith)
bits_of_injective (x ∷ a) (y ∷ b) p q h e =
    let s = append_split (low_bits 8 x) (low_bits 8 y) (bits_of a) (bits_of b) (length-low_bits 8 x ∙ sym (length-low_bits 8 y)) e in
    ap₂ (λ z w. z ∷ w) (low_bits_injective 8 x y p.0 q.0 s.0) (bits_of_injective a b p.1 q.1 (omega arith) s.1)

-- bytes of two lists in a row
pub bytes_append : (a b : List ℕ) → Bytes a → Bytes b → Bytes (a ++ b)
bytes_append [] b p q = q
bytes_append (x ∷ a) b p q = (p.0, bytes_append a b p.1 q)

-- ---- numbers compared as bits

true_T : (b : Bool) → b ≡ true → T b
true_T true e = tt
true_T false e = absurd (true≢false (sym e))

-- two numbers are equal exactly where two strings are
pub equal_as_bits : (m n : ℕ) (a b : List Bool) → (m ≡ n → a ≡ b) → (a ≡ b → m ≡ n) → eqb m n ≡ same a b
equal_as_bits m n a b f g = go (eqb m n) refl (same a b) refl
  where
    go : (t : Bool) → eqb m n ≡ t → (u : Bool) → same a b ≡ u → eqb m n ≡ same a b
    go true p u q = p ∙ sym (ap (same a) (sym (f (eqb-true m n p))) ∙ same_self a)
    go false p true q = absurd (eqb-false m n p (g (same_sound a b (true_T (same a b) q))))
    go false p false q = p ∙ sym q

-- a string's value is a number exactly where the string is the number's bits
pub equal_value : (w n : ℕ) (s : List Bool) → length s ≡ w → n < 2 ^ w → eqb (value s) n ≡ same s (low_bits w n)
equal_value w n s l h =
    let e : low_bits w (value s) ≡ s = ap (λ k. low_bits k (value s)) (sym l) ∙ low_bits-value s in
    equal_as_bits (value s) n s (low_bits w n) (λ q. sym e ∙ ap (low_bits w) q) (λ q. ap value q ∙ value-low_bits w n ∙ mod-eq_of_lt h)
