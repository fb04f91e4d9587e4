-- Laws of characters and parity. Assumes nothing.
use mathlib.Core.Path.{◌≡◌, refl, ap, ◌∙◌}
use Prim.Native.Nat.{ℕ, ◌+◌, ◌/◌, ◌%◌, ◌<◌}
use native.Mathlib.Omega.{arith}
use mathlib.Core.Bool.{Bool, true, false, not, beq, xor, cond}
use lib.Bits.{bit_xor}
use lib.Dec.{T, eqb}
use Rattle.bits.specs.Strings.{parity}
use Rattle.bits.specs.Bytes.{low_bits}
use Rattle.bits.proofs.Strings.{xor_comm}
use Rattle.bits.proofs.Bytes.{low_bits-mod}
use Rattle.division.proofs.Order.{all, all_at}
use Rattle.block.specs.declared.Parity.{Parity}
use Rattle.block.specs.Characters.{is_odd, with_parity}

beq_sound : (a b : Bool) → T (beq a b) → a ≡ b
beq_sound true true t = refl
beq_sound true false t = absurd t
beq_sound false true t = absurd t
beq_sound false false t = refl

-- ---- the parity of a byte, folded to one bit: tried at every byte

abbrev folded : ℕ → ℕ
folded b = bit_xor (bit_xor b (b / 16)) (bit_xor b (b / 16) / 4)

abbrev odd_by_folding : ℕ → Bool
odd_by_folding b = eqb (bit_xor (folded b) (folded b / 2) % 2) 1

abbrev right : ℕ → Bool
right b = beq (odd_by_folding b) (parity (low_bits 8 b))

folding_right : T (all right 256)
unfolding low_bits xor
folding_right = tt

pub parity-folded : (b : ℕ) → b < 256 → odd_by_folding b ≡ parity (low_bits 8 b)
parity-folded b h = beq_sound (odd_by_folding b) (parity (low_bits 8 b)) (all_at right 256 b folding_right h)

-- ---- the parity bit: the eighth bit of a character below 128 is clear

seven_parity : T (all (λ b. beq (parity (low_bits 8 b)) (parity (low_bits 7 b))) 128)
unfolding low_bits xor
seven_parity = tt

pub parity_seven : (b : ℕ) → parity (low_bits 8 (b % 128)) ≡ parity (low_bits 7 b)
parity_seven b =
    beq_sound _ _ (all_at (λ b. beq (parity (low_bits 8 b)) (parity (low_bits 7 b))) 128 (b % 128) seven_parity (omega arith))
    ∙ ap parity (low_bits-mod 7 b)

module _ (p : Parity) (b : ℕ) {odd want : Bool} (o : odd ≡ parity (low_bits 8 (b % 128))) (w : want ≡ is_odd p) where
  top_bit : (equal : Bool) → beq odd want ≡ equal → with_parity p b ≡ b % 128 + cond (not equal) 128 0
  unfolding with_parity xor
  top_bit equal e =
      let d : xor (parity (low_bits 7 b)) (is_odd p) ≡ not equal = rw (← parity_seven b, ← o, ← w) (ap not e) in
      ap (λ t. b % 128 + cond t 128 0) (xor_comm (is_odd p) (parity (low_bits 7 b)) ∙ d)

  pub parity_clear : beq odd want ≡ true → b % 128 ≡ with_parity p b
  parity_clear e = omega (arith, top_bit true e)

  pub parity-set : beq odd want ≡ false → b % 128 + 128 ≡ with_parity p b
  parity-set e = omega (arith, top_bit false e)
