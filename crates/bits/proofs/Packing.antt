-- Packing bits into bytes and unpacking them are inverse to each other. Assumes nothing.
use mathlib.Core.Path.{◌≡◌, refl, sym, ap, ap₂, ◌∙◌}
use Prim.Native.Nat.{ℕ, zero, suc, ◌+◌, ◌-◌, ◌*◌, ◌/◌, ◌%◌, ◌^◌, ◌≤◌, ◌<◌}
use native.Mathlib.Nat.{div-div-eq-div-mul, pow-suc}
use native.Mathlib.Omega.{arith}
use mathlib.Core.Bool.{Bool, true, false}
use mathlib.Core.List.{List, [], ◌∷◌, ◌++◌, append_assoc, append-nil}
use lib.Dec.{leb}
use borrow.Author.Tests.{leb-true, leb-false}
use lib.Pow.{pow_mono}
use lib.ListN.{length, take, drop, length-take, length-drop, take-append-drop, drop_of_length-le}
use lib.Seq.{take_all, take_at}
use Rattle.std.specs.Int.{bytes_low_first}
use Rattle.bits.specs.Strings.{zeros}
use Rattle.bits.specs.Bytes.{low_bits, bits_of, Bytes, value, bytes_for, pack_into, pack}
use Rattle.bits.proofs.Strings.{zeros-append}
use Rattle.bits.proofs.Bytes.{length-bits_of, bits_of_injective, low_bits-append, low_bits-mod, low_bits-value-zeros, value_lt}

-- ---- pack_into

length-pack_into : (n : ℕ) (s : List Bool) → length (pack_into n s) ≡ n
unfolding pack_into
length-pack_into zero s = refl
length-pack_into (suc n) s = ap suc (length-pack_into n (drop 8 s))

bytes_pack_into : (n : ℕ) (s : List Bool) → Bytes (pack_into n s)
unfolding pack_into
bytes_pack_into zero s = tt
bytes_pack_into (suc n) s =
    (omega (arith, value_lt (take 8 s), pow_mono {i = length (take 8 s)} {j = 8} (omega (arith, length-take 8 s))), bytes_pack_into n (drop 8 s))

-- the bits again, and zeros up to the end of the bytes
bits_of-pack_into : (n : ℕ) (s : List Bool) → length s ≤ 8 * n → bits_of (pack_into n s) ≡ s ++ zeros (8 * n - length s)
unfolding pack_into bits_of
bits_of-pack_into zero [] h = refl
bits_of-pack_into zero (x ∷ s) h = absurd (omega arith)
bits_of-pack_into (suc n) s h = go (bits_of-pack_into n (drop 8 s) (omega (arith, length-drop 8 s))) (leb 8 (length s)) refl
  where
    t : List Bool
    t = take 8 s

    r : List Bool
    r = drop 8 s

    go : bits_of (pack_into n r) ≡ r ++ zeros (8 * n - length r) → (u : Bool) → leb 8 (length s) ≡ u → low_bits 8 (value t) ++ bits_of (pack_into n r) ≡ s ++ zeros (8 * suc n - length s)
    go rest true q =
        let l : 8 ≤ length s = leb-true 8 (length s) q in
        let e : length t + 0 ≡ 8 = omega (arith, length-take 8 s) in
        let z : 8 * n - length r ≡ 8 * suc n - length s = omega (arith, length-drop 8 s) in
        ap₂ ◌++◌ (ap (λ w. low_bits w (value t)) (sym e) ∙ low_bits-value-zeros t 0 ∙ append-nil t) (rest ∙ ap (λ k. r ++ zeros k) z)
        ∙ sym (append_assoc t r (zeros (8 * suc n - length s))) ∙ ap (λ a. a ++ zeros (8 * suc n - length s)) (take-append-drop 8 s)
    go rest false q =
        let l : length s < 8 = leb-false 8 (length s) q in
        let e : length s + (8 - length s) ≡ 8 = omega arith in
        let f : t ≡ s = take_all 8 s (omega arith) in
        let g : r ≡ [] = drop_of_length-le s {i = 8} (omega arith) in
        let z : (8 - length s) + (8 * n - 0) ≡ 8 * suc n - length s = omega arith in
        ap₂ ◌++◌
        (ap (λ a. low_bits 8 (value a)) f ∙ ap (λ w. low_bits w (value s)) (sym e) ∙ low_bits-value-zeros s (8 - length s))
        (rest ∙ ap (λ a. a ++ zeros (8 * n - length a)) g)
        ∙ append_assoc s (zeros (8 - length s)) (zeros (8 * n - 0))
        ∙ ap (λ a. s ++ a) (zeros-append (8 - length s) (8 * n - 0) ∙ ap zeros z)

-- ---- pack

pub length-pack : (s : List Bool) → length (pack s) ≡ bytes_for (length s)
unfolding pack
length-pack s = length-pack_into (bytes_for (length s)) s

pub bytes_pack : (s : List Bool) → Bytes (pack s)
unfolding pack
bytes_pack s = bytes_pack_into (bytes_for (length s)) s

-- the spare bits are zero
pub bits_of-pack : (s : List Bool) → bits_of (pack s) ≡ s ++ zeros (8 * bytes_for (length s) - length s)
unfolding pack
bits_of-pack s = bits_of-pack_into (bytes_for (length s)) s (omega arith)

pub take-bits_of-pack : (s : List Bool) → take (length s) (bits_of (pack s)) ≡ s
take-bits_of-pack s = ap (take (length s)) (bits_of-pack s) ∙ take_at s (zeros (8 * bytes_for (length s) - length s)) (length s) refl

pub pack-bits_of : (bs : List ℕ) → Bytes bs → pack (bits_of bs) ≡ bs
pack-bits_of bs b =
    let n = length-bits_of bs in
    let m : bytes_for (length (bits_of bs)) ≡ length bs = omega arith in
    let z : 8 * bytes_for (length (bits_of bs)) - length (bits_of bs) ≡ 0 = omega arith in
    bits_of_injective (pack (bits_of bs)) bs (bytes_pack (bits_of bs)) b (length-pack (bits_of bs) ∙ m)
    (bits_of-pack (bits_of bs) ∙ ap (λ k. bits_of bs ++ zeros k) z ∙ append-nil (bits_of bs))

-- ---- numbers in bytes

-- n bytes of a number, the low byte first
abbrev pub little_endian : ℕ → ℕ → List ℕ
little_endian zero x = []
little_endian (suc n) x = x % 256 ∷ little_endian n (x / 256)

bytes_little_endian : (n x : ℕ) → Bytes (little_endian n x)
bytes_little_endian zero x = tt
bytes_little_endian (suc n) x = (omega arith, bytes_little_endian n (x / 256))

pub bits_of-little_endian : (n x : ℕ) → bits_of (little_endian n x) ≡ low_bits (8 * n) x
unfolding bits_of low_bits
bits_of-little_endian zero x = refl
bits_of-little_endian (suc n) x =
    let e : 8 + 8 * n ≡ 8 * suc n = omega arith in
    ap₂ ◌++◌ (low_bits-mod 8 x) (bits_of-little_endian n (x / 256)) ∙ sym (low_bits-append 8 (8 * n) x) ∙ ap (λ w. low_bits w x) e

pub pack-low_bits : (n x : ℕ) → pack (low_bits (8 * n) x) ≡ little_endian n x
pack-low_bits n x = ap pack (sym (bits_of-little_endian n x)) ∙ pack-bits_of (little_endian n x) (bytes_little_endian n x)

-- the bytes of std's `to_le_bytes`, from byte i on
bytes_from : (i n x : ℕ) → bytes_low_first i n x ≡ little_endian n (x / 256 ^ i)
bytes_from i zero x = refl
bytes_from zero (suc n) x =
    let here : x ≡ x / 256 ^ 0 = omega arith in
    let next : x / 256 ^ 1 ≡ x / 256 ^ 0 / 256 = omega arith in
    ap₂ (λ a b. a % 256 ∷ b) here (bytes_from 1 n x ∙ ap (little_endian n) next)
bytes_from (suc i) (suc n) x =
    let next : x / 256 ^ suc (suc i) ≡ x / 256 ^ suc i / 256 = ap (λ d. x / d) (pow-suc 256 (suc i)) ∙ sym (div-div-eq-div-mul x (256 ^ suc i) 256) in
    ap (λ b. x / 256 ^ suc i % 256 ∷ b) (bytes_from (suc (suc i)) n x ∙ ap (little_endian n) next)

pub le_bytes : (n x : ℕ) → bytes_low_first 0 n x ≡ little_endian n x
le_bytes n x = let none : x / 256 ^ 0 ≡ x = omega arith in bytes_from 0 n x ∙ ap (little_endian n) none
