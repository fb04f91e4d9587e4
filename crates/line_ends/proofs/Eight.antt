-- The eight bits from a place on stand in one byte or in two. Assumes nothing.
use mathlib.Core.Path.{◌≡◌, refl, sym, ap, ap₂, ◌∙◌, subst}
use mathlib.Core.Bool.{Bool, true, false}
use mathlib.Core.List.{List, ◌++◌, append_assoc}
use Prim.Native.Nat.{ℕ, ◌+◌, ◌*◌, ◌-◌, ◌/◌, ◌%◌, ◌^◌, ◌<◌}
use native.Mathlib.Omega.{arith}
use lib.Dec.{T, eqb, lit<}
use lib.Bits.{bit_or}
use lib.ListN.{length, take, drop, get_or, length-take, length-drop}
use lib.Seq.{take_at, drop_at, drop-drop}
use Rattle.bits.specs.Strings.{same}
use Rattle.bits.specs.Bytes.{low_bits, bits_of}
use Rattle.bits.proofs.Strings.{same_sound}
use Rattle.bits.proofs.Bytes.{length-bits_of, length-low_bits, low_bits-append, value-low_bits, equal_value}
use Rattle.frame.specs.Frame.{flag}
use Rattle.frame.proofs.Words.{join, joined-or, joined-bits, bits_of_on, bits_of-drop}

module _ (bs : List ℕ) (at : ℕ) where
  abbrev index : ℕ
  index = at / 8

  abbrev shift : ℕ
  shift = at % 8

  abbrev eight : List Bool
  eight = take 8 (drop at (bits_of bs))

  flag-length : length flag ≡ 8
  unfolding flag
  flag-length = length-low_bits 8 0x7E

  -- fewer than eight bits
  pub flag-none : 8 * length bs < at + 8 → false ≡ same eight flag
  flag-none h = sym (go (same eight flag) refl)
    where
      short : length eight < 8
      short = omega (arith, length-take 8 (drop at (bits_of bs)), length-drop at (bits_of bs), length-bits_of bs)

      go : (t : Bool) → same eight flag ≡ t → t ≡ false
      go true q = absurd (omega (arith, short, flag-length, ap length (same_sound eight flag (subst T (sym q) tt))))
      go false q = refl

  pub flag-value : (x : ℕ) → eight ≡ low_bits 8 x → eqb (x % 256) 0x7E ≡ same eight flag
  unfolding flag
  flag-value x e =
      ap (λ n. eqb n 0x7E) (sym (value-low_bits 8 x)) ∙ equal_value 8 0x7E (low_bits 8 x) (length-low_bits 8 x) (lit< tt) ∙ ap (λ s. same s (low_bits 8 0x7E)) (sym e)

  -- the bits from the byte on, and from the place on
  from_byte : drop at (bits_of bs) ≡ drop shift (bits_of (drop index bs))
  from_byte =
      let e : at ≡ 8 * index + shift = omega arith in
      ap (λ n. drop n (bits_of bs)) e ∙ sym (drop-drop shift (8 * index) (bits_of bs)) ∙ ap (drop shift) (bits_of-drop index bs)

  -- in one byte
  pub one_byte : shift ≡ 0 → index < length bs → eight ≡ low_bits 8 (get_or bs index 0)
  one_byte z h =
      let b = get_or bs index 0 in
      ap (take 8) (from_byte ∙ ap (λ n. drop n (bits_of (drop index bs))) z ∙ bits_of_on bs index h)
      ∙ take_at (low_bits 8 b) (bits_of (drop (index + 1) bs)) 8 (length-low_bits 8 b)

  -- in two
  abbrev two : ℕ
  two = bit_or (get_or bs index 0) (get_or bs (index + 1) 0 * 256 % 4294967296)

  pub two_bytes : index + 1 < length bs → get_or bs index 0 < 256 → get_or bs (index + 1) 0 < 256 → eight ≡ low_bits 8 (two / 2 ^ shift)
  two_bytes h lo hi =
      let a = get_or bs index 0 in
      let b = get_or bs (index + 1) 0 in
      let w = join 8 a b in
      let rest = bits_of (drop (index + 1 + 1) bs) in
      let x = two / 2 ^ shift in
      let is : w ≡ two = sym (joined-or 8 a 8 b lo hi (omega arith)) in
      let k : 16 ≡ shift + (8 + (8 - shift)) = omega arith in
      let bits : bits_of (drop index bs) ≡ low_bits shift two ++ (low_bits 8 x ++ (low_bits (8 - shift) (x / 2 ^ 8) ++ rest)) =
      bits_of_on bs index (omega arith) ∙ ap (λ s. low_bits 8 a ++ s) (bits_of_on bs (index + 1) h)
      ∙ sym (append_assoc (low_bits 8 a) (low_bits 8 b) rest)
      ∙ ap (λ s. s ++ rest) (joined-bits 8 a 8 b lo hi ∙ ap₂ low_bits k is ∙ low_bits-append shift (8 + (8 - shift)) two ∙ ap (λ s. low_bits shift two ++ s) (low_bits-append 8 (8 - shift) x))
      ∙ append_assoc (low_bits shift two) (low_bits 8 x ++ low_bits (8 - shift) (x / 2 ^ 8)) rest
      ∙ ap (λ s. low_bits shift two ++ s) (append_assoc (low_bits 8 x) (low_bits (8 - shift) (x / 2 ^ 8)) rest) in
      ap (take 8)
      (from_byte ∙ ap (drop shift) bits
      ∙ drop_at (low_bits shift two) (low_bits 8 x ++ (low_bits (8 - shift) (x / 2 ^ 8) ++ rest)) shift (length-low_bits shift two))
      ∙ take_at (low_bits 8 x) (low_bits (8 - shift) (x / 2 ^ 8) ++ rest) 8 (length-low_bits 8 x)
