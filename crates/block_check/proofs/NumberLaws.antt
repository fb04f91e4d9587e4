-- The number of a check: one slice after the other, a sum apart from its start, and the check of all the bytes. Assumes nothing.
use mathlib.Core.Path.{◌≡◌, refl, sym, ap, ap₂, ◌∙◌}
use Prim.Native.Nat.{ℕ, zero, suc, ◌+◌, ◌*◌, ◌%◌, ◌^◌, ◌<◌}
use native.Mathlib.Omega.{arith}
use native.Mathlib.Nat.{lt_of_lt_of_le, mod-eq_of_lt}
use mathlib.Core.Bool.{Bool, true, false, cond, not, xor}
use mathlib.Core.List.{List, [], ◌∷◌, ◌++◌}
use lib.Bits.{bit_xor, xor_lt, xor_zero_r}
use lib.ListN.{length, length-map}
use lib.Pow.{pow_mono}
use Rattle.bits.specs.Strings.{xor_bits, parity}
use Rattle.bits.specs.Bytes.{low_bits, bits_of, bytes_for, value, Bytes}
use Rattle.bits.proofs.Strings.{xor_bits_assoc}
use Rattle.bits.proofs.Bytes.{low_bits_injective, low_bits-mod, low_bits-xor, low_bits-value, length-low_bits, length-bits_of, value_lt, value-low_bits}
use Rattle.division.specs.Generators.{ccitt16, ibm16}
use Rattle.cyclic.specs.Check.{Parameters, Constants, invert_if, check_bits, method3, method4}
use Rattle.cyclic.specs.Laws.{OfWidth}
use Rattle.cyclic.proofs.Methods.{width_3, width_4, began}
use Rattle.generator16.specs.Register.{register_after}
use Rattle.generator16.proofs.Registers.{after-append}
use Rattle.block.specs.declared.Method.{Method}
use Rattle.block.specs.declared.Method.TheVariants as method
use Rattle.block.specs.declared.Parity.{Parity}
use Rattle.block.specs.Characters.{with_parity, is_odd}
use Rattle.block.specs.Check.{check_of, xor_all}
use Rattle.block.proofs.Sums.{xor_all-append}
use Rattle.block.proofs.CheckLaws.{register_check, matrix_character, with_parity_lt}
use Rattle.block_diagonals.specs.Sums.{characters}
use Rattle.block_diagonals.proofs.Turning.{sums_after-append}
use Rattle.block_diagonals.proofs.TwoCharacters.{characters-check}
use Rattle.block_check.specs.Numbers.{start_of, number_after, check_from}

-- ---- sums

below_power : (n : ℕ) → n < 2 ^ n
below_power zero = omega arith
below_power (suc n) = omega (arith, below_power n)

bit_xor_assoc : (a b c : ℕ) → bit_xor (bit_xor a b) c ≡ bit_xor a (bit_xor b c)
bit_xor_assoc a b c =
    let w = a + b + c in
    let p : a < 2 ^ w = lt_of_lt_of_le (below_power a) (pow_mono (omega arith)) in
    let q : b < 2 ^ w = lt_of_lt_of_le (below_power b) (pow_mono (omega arith)) in
    let r : c < 2 ^ w = lt_of_lt_of_le (below_power c) (pow_mono (omega arith)) in
    low_bits_injective w (bit_xor (bit_xor a b) c) (bit_xor a (bit_xor b c)) (xor_lt w (bit_xor a b) c (xor_lt w a b p q) r) (xor_lt w a (bit_xor b c) p (xor_lt w b c q r))
    (low_bits-xor w (bit_xor a b) c ∙ ap (λ z. xor_bits z (low_bits w c)) (low_bits-xor w a b) ∙ xor_bits_assoc (low_bits w a) (low_bits w b) (low_bits w c)
    ∙ sym (low_bits-xor w a (bit_xor b c) ∙ ap (xor_bits (low_bits w a)) (low_bits-xor w b c)))

sum_within : (n m : ℕ) (bs : List ℕ) → bit_xor n (xor_all m bs) ≡ xor_all (bit_xor n m) bs
unfolding xor_all
sum_within n m [] = refl
sum_within n m (b ∷ bs) = sum_within n (bit_xor m b) bs ∙ ap (λ z. xor_all z bs) (sym (bit_xor_assoc n m b))

-- a sum from zero on, added to what there was
pub sum_apart : (n : ℕ) (bs : List ℕ) → bit_xor n (xor_all 0 bs) ≡ xor_all n bs
sum_apart n bs = sum_within n 0 bs ∙ ap (λ z. xor_all z bs) (xor_zero_r n)

pub sum_one : (n b : ℕ) → bit_xor n b ≡ xor_all n (b ∷ [])
unfolding xor_all
sum_one n b = refl

-- ---- all methods

pub number_append : (m : Method) (n : ℕ) (xs ys : List ℕ) → number_after m n (xs ++ ys) ≡ number_after m (number_after m n xs) ys
unfolding number_after
number_append method.Parity n xs ys = refl
number_append method.Matrix n xs ys = xor_all-append n xs ys
number_append method.Cyclic n xs ys = after-append ccitt16 n xs ys
number_append method.CyclicAlternative n xs ys = after-append ibm16 n xs ys
number_append method.Diagonal n xs ys = sums_after-append n xs ys

-- ---- the start of methods 3 and 4

value-bits : (w : ℕ) (s : List Bool) → length s ≡ w → low_bits w (value s) ≡ s
value-bits w s l = ap (λ n. low_bits n (value s)) (sym l) ∙ low_bits-value s

length-invert_if : (i : Bool) (s : List Bool) → length (invert_if i s) ≡ length s
length-invert_if true s = length-map s not
length-invert_if false s = refl

-- a register that began at a method's start holds its check
from_start : (m : Parameters) → OfWidth 16 m → (bs : List ℕ)
    → invert_if m.inverted (low_bits 16 (register_after m.generator (value m.start) bs)) ≡ check_bits m (bits_of bs)
from_start m o bs =
    let r = register_after m.generator (value m.start) bs in
    let sent = invert_if m.inverted (low_bits 16 r) in
    let l : length sent ≡ 16 = length-invert_if m.inverted (low_bits 16 r) ∙ length-low_bits 16 r in
    let k = value-bits 16 sent l in
    sym k ∙ register_check m o bs (value sent) (value-bits 16 m.start o.start-length) (omega (arith, value_lt m.start, ap (λ n. 2 ^ n) o.start-length)) refl k

pub check-after : (m : Method) (p : Parity) (bs : List ℕ) → check_from m p (number_after m (start_of m) bs) ≡ check_of m p bs
unfolding number_after check_from check_of method3 method4
check-after method.Parity p bs = refl
check-after method.Matrix p bs = sym (matrix_character p bs)
check-after method.Cyclic p bs = from_start method3 width_3 bs
check-after method.CyclicAlternative p bs = from_start method4 width_4 bs
check-after method.Diagonal p bs = characters-check p bs

-- a new register's number is that of the method's start
pub start-number : {m : Parameters} {register polynomial start limit : ℕ} → Constants m register 16 polynomial start limit → register < 2 ^ 16
    → register ≡ value m.start
start-number {register = r} k h = sym (mod-eq_of_lt h) ∙ sym (value-low_bits 16 r) ∙ ap value (began k)

-- a check fills its bytes
pub whole_bytes : (m : Method) (p : Parity) (n : ℕ) → 8 * bytes_for (length (check_from m p n)) ≡ length (check_from m p n)
unfolding check_from method3 method4 low_bits
whole_bytes method.Parity p n = refl
whole_bytes method.Matrix p n = refl
whole_bytes method.Cyclic p n =
    let l : length (check_from method.Cyclic p n) ≡ 16 = length-invert_if true (low_bits 16 n) ∙ length-low_bits 16 n in
    rw l
whole_bytes method.CyclicAlternative p n =
    let l : length (check_from method.CyclicAlternative p n) ≡ 16 = length-invert_if false (low_bits 16 n) ∙ length-low_bits 16 n in
    rw l
whole_bytes method.Diagonal p n =
    let l : length (check_from method.Diagonal p n) ≡ 16 = length-bits_of (characters p n) in
    rw l

-- the character of a sum goes by its low bits
pub with_parity-low : (p : Parity) (n : ℕ) → with_parity p (n % 256) ≡ with_parity p n
unfolding with_parity
with_parity-low p n =
    let e : n % 256 % 128 ≡ n % 128 = omega arith in
    ap₂ (λ x y. x + cond (xor (is_odd p) (parity y)) 128 0) e (sym (low_bits-mod 7 (n % 256)) ∙ ap (low_bits 7) e ∙ low_bits-mod 7 n)

-- the characters of method 7 are bytes
pub characters_fit : (p : Parity) (n : ℕ) → Bytes (characters p n)
characters_fit p n = (with_parity_lt p _, (with_parity_lt p _, tt))
