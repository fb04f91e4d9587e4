-- The told bits of the bytes lent: how many they are, which of the bytes' bits stand at their ends and between the flags, and which
-- bytes hold them. Assumes nothing.
use mathlib.Core.Path.{◌≡◌, sym, ap, ap₂, ◌∙◌}
use mathlib.Core.Bool.{Bool}
use mathlib.Core.List.{List, ◌++◌, append_assoc, append-nil}
use Prim.Native.Nat.{ℕ, ◌+◌, ◌*◌, ◌-◌, ◌/◌, ◌%◌, ◌^◌, ◌≤◌}
use native.Mathlib.Omega.{arith}
use lib.ListN.{length, take, drop, get_or}
use lib.Seq.{slice, take_at, take-take, take-add, length-take-le}
use Rattle.bits.specs.Bytes.{low_bits, bits_of}
use Rattle.bits.proofs.Bytes.{length-low_bits, low_bits-append, length-bits_of}
use Rattle.bits.proofs.WholeBytes.{drop-take}
use Rattle.frame.specs.Read.{between}
use Rattle.frame.proofs.Words.{bits_of_on, bits_of-take, bits_of-drop}

module _ (lent : List ℕ) (told : ℕ) (within : told ≤ 8 * length lent) where
  abbrev bits : List Bool
  bits = bits_of lent

  pub told_length : length (take told bits) ≡ told
  told_length = length-take-le told bits (omega (arith, length-bits_of lent))

  module _ (sixteen : 16 ≤ told) where
    pub first-eight : take 8 (take told bits) ≡ take 8 bits
    first-eight = take-take 8 told bits (omega arith)

    pub last_eight : drop (told - 8) (take told bits) ≡ take 8 (drop (told - 8) bits)
    last_eight =
        let e : told ≡ told - 8 + 8 = omega arith in
        ap (λ k. drop (told - 8) (take k bits)) e ∙ drop-take (told - 8) 8 bits (omega (arith, length-bits_of lent))

    pub all_but_eight : take (told - 8) (take told bits) ≡ take (told - 8) bits
    all_but_eight = take-take (told - 8) told bits (omega arith)

    pub between_told : between (take told bits) ≡ slice 8 (told - 8) bits
    between_told = ap (λ k. slice 8 (k - 8) (take told bits)) told_length ∙ ap (drop 8) all_but_eight

-- ---- the told bits by bytes

-- whole bytes, and the lowest bits of the byte behind them where there are any
pub told_parts : (lent : List ℕ) (bits last : ℕ) → bits ≤ 8 * length lent → (bits % 8 ≡ 0 → ⊥) → last ≡ get_or lent (bits / 8) 0
    → bits_of (take (bits / 8) lent) ++ low_bits (bits % 8) last ≡ take bits (bits_of lent)
told_parts lent bits last h n e =
    let i = bits / 8 in
    let k = bits % 8 in
    let b = get_or lent i 0 in
    let q : bits ≡ 8 * i + k = omega arith in
    let w : 8 ≡ k + (8 - k) = omega arith in
    let rest = bits_of (drop (i + 1) lent) in
    let high = low_bits (8 - k) (b / 2 ^ k) in
    ap₂ (λ x y. x ++ low_bits k y) (sym (bits_of-take i lent)) e
    ∙ ap (λ z. take (8 * i) (bits_of lent) ++ z)
    (sym (ap (take k) (bits_of-drop i lent ∙ bits_of_on lent i (omega (arith, n, h)) ∙ ap (λ s. s ++ rest) (ap (λ w. low_bits w b) w ∙ low_bits-append k (8 - k) b) ∙ append_assoc (low_bits k b) high rest)
    ∙ take_at (low_bits k b) (high ++ rest) k (length-low_bits k b)))
    ∙ sym (take-add (8 * i) k (bits_of lent)) ∙ ap (λ n. take n (bits_of lent)) (sym q)

-- whole bytes alone
pub told_whole : (lent : List ℕ) (bits last : ℕ) → bits % 8 ≡ 0 → bits_of (take (bits / 8) lent) ++ low_bits (bits % 8) last ≡ take bits (bits_of lent)
unfolding low_bits
told_whole lent bits last z =
    let q : 8 * (bits / 8) ≡ bits = omega (arith, z) in
    ap (λ k. bits_of (take (bits / 8) lent) ++ low_bits k last) z ∙ append-nil (bits_of (take (bits / 8) lent))
    ∙ sym (bits_of-take (bits / 8) lent) ∙ ap (λ n. take n (bits_of lent)) q
