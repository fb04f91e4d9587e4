-- Bits held in a number: bits put above them, the byte taken from below them, and bytes stored one after the other. Assumes
-- nothing.
use mathlib.Core.Path.{◌≡◌, refl, sym, ap, ap₂, ◌∙◌}
use mathlib.Core.Bool.{Bool}
use mathlib.Core.List.{List, [], ◌∷◌, ◌++◌}
use Prim.Native.Nat.{ℕ, zero, suc, ◌+◌, ◌*◌, ◌/◌, ◌%◌, ◌^◌, ◌<◌, ◌≤◌}
use native.Mathlib.Omega.{arith}
use native.Mathlib.Nat.{div-lt_iff_lt-mul}
use native.Mathlib.Numerals.{add-one}
use lib.Bits.{bit_or, or_shifted_r}
use lib.Pow.{pow-add, pow_pos, shl_exact, shr_lt, high, low}
use lib.ListN.{length, set, length-append, get_or, take, drop, drop_of_length-le}
use lib.Seq.{sets, take_at, drop_at, take_all, take-append-add, drop-cons, drop-drop}
use Rattle.bits.specs.Bytes.{low_bits, value, bytes_for, pack_into, pack, bits_of}
use Rattle.bits.proofs.Bytes.{length-low_bits, low_bits-append, low_bits-mod, value-low_bits}

-- ---- n bits above the held ones

abbrev pub join : ℕ → ℕ → ℕ → ℕ
join place held bits = bits * 2 ^ place + held

module _ (place held n bits : ℕ) (hs : held < 2 ^ place) (bs : bits < 2 ^ n) where
  abbrev joined : ℕ
  joined = join place held bits

  -- as code makes it
  pub joined-or : n + place ≤ 32 → bit_or held (bits * 2 ^ place % 4294967296) ≡ joined
  joined-or h = ap (bit_or held) (shl_exact n place 32 bs h) ∙ or_shifted_r bits place held hs

  pub joined_small : joined < 2 ^ (n + place)
  joined_small =
      rw (pow-add 2 n place) ((div-lt_iff_lt-mul (pow_pos place)).0 (rw (high bits place hs) bs))

  pub joined-bits : low_bits place held ++ low_bits n bits ≡ low_bits (place + n) joined
  joined-bits =
      sym (low_bits-append place n joined
      ∙ ap₂ (λ (x y : List Bool). x ++ y) (sym (low_bits-mod place joined) ∙ ap (low_bits place) (low bits place hs)) (ap (low_bits n) (high bits place hs)))

-- ---- the byte below

pub byte-bits : (n x : ℕ) → low_bits (8 + n) x ≡ low_bits 8 x ++ low_bits n (x / 256)
byte-bits n x = low_bits-append 8 n x

pub pack-byte : (x : ℕ) (s : List Bool) → pack (low_bits 8 x ++ s) ≡ x % 256 ∷ pack s
unfolding pack pack_into
pack-byte x s =
    let l : length (low_bits 8 x) ≡ 8 = length-low_bits 8 x in
    let e : bytes_for (length (low_bits 8 x ++ s)) ≡ suc (bytes_for (length s)) = omega (arith, length-append (low_bits 8 x) s) in
    ap (λ k. pack_into k (low_bits 8 x ++ s)) e
    ∙ ap₂ (λ (a b : List Bool). value a ∷ pack_into (bytes_for (length s)) b) (take_at (low_bits 8 x) s 8 l) (drop_at (low_bits 8 x) s 8 l)
    ∙ ap (λ v. v ∷ pack_into (bytes_for (length s)) s) (value-low_bits 8 x)

pub store_byte : (out : List ℕ) (i x : ℕ) (s : List Bool) → sets out i (pack (low_bits 8 x ++ s)) ≡ sets (set out i (x % 256)) (i + 1) (pack s)
store_byte out i x s = ap (sets out i) (pack-byte x s) ∙ ap (λ k. sets (set out i (x % 256)) k (pack s)) (sym (add-one i))

-- less than a byte
pub pack_part : (p x : ℕ) → 0 < p → p < 8 → pack (low_bits p x) ≡ x % 2 ^ p ∷ []
unfolding pack pack_into
pack_part p x h l =
    let k : bytes_for (length (low_bits p x)) ≡ 1 = omega (arith, length-low_bits p x) in
    let m : length (low_bits p x) ≤ 8 = omega (arith, length-low_bits p x) in
    ap (λ k. pack_into k (low_bits p x)) k ∙ ap (λ s. value s ∷ []) (take_all 8 (low_bits p x) m) ∙ ap (λ v. v ∷ []) (value-low_bits p x)

-- of a number of a byte and n bits more
pub rest_small : (n : ℕ) {x : ℕ} → x < 2 ^ (n + 8) → x / 256 < 2 ^ n
rest_small n h = shr_lt n 8 h

module _ (bytes : List ℕ) (i : ℕ) where
  pub bits_of_on : i < length bytes → bits_of (drop i bytes) ≡ low_bits 8 (get_or bytes i 0) ++ bits_of (drop (i + 1) bytes)
  unfolding bits_of
  bits_of_on h = rw (add-one, drop-cons bytes i 0)

  pub bits_of-none : length bytes ≤ i → bits_of (drop i bytes) ≡ []
  unfolding bits_of
  bits_of-none h = ap bits_of (drop_of_length-le bytes h)

-- the bits of the first whole bytes, and those behind them
pub bits_of-take : (i : ℕ) (bs : List ℕ) → take (8 * i) (bits_of bs) ≡ bits_of (take i bs)
unfolding bits_of
bits_of-take zero bs = refl
bits_of-take (suc i) [] = let h : 0 ≤ 8 * suc i = omega arith in take_all (8 * suc i) [] h
bits_of-take (suc i) (b ∷ bs) =
    let l = length-low_bits 8 b in
    let e : 8 * suc i ≡ length (low_bits 8 b) + 8 * i = omega arith in
    ap (λ n. take n (low_bits 8 b ++ bits_of bs)) e
    ∙ take-append-add (low_bits 8 b) (bits_of bs) (8 * i) ∙ ap (λ s. low_bits 8 b ++ s) (bits_of-take i bs)

pub bits_of-drop : (i : ℕ) (bs : List ℕ) → drop (8 * i) (bits_of bs) ≡ bits_of (drop i bs)
unfolding bits_of
bits_of-drop zero bs = refl
bits_of-drop (suc i) [] = let h : 0 ≤ 8 * suc i = omega arith in drop_of_length-le [] h
bits_of-drop (suc i) (b ∷ bs) =
    let e : 8 * suc i ≡ 8 + 8 * i = omega arith in
    ap (λ n. drop n (low_bits 8 b ++ bits_of bs)) e
    ∙ sym (drop-drop (8 * i) 8 (low_bits 8 b ++ bits_of bs))
    ∙ ap (drop (8 * i)) (drop_at (low_bits 8 b) (bits_of bs) 8 (length-low_bits 8 b)) ∙ bits_of-drop i bs
