-- The characters that the sums of the counted bytes stand for are their check. Assumes nothing.
use mathlib.Core.Path.{◌≡◌, sym, ap, ap₂, ◌∙◌}
use Prim.Native.Nat.{ℕ, ◌+◌, ◌*◌, ◌<◌}
use lib.Dec.{lit<}
use mathlib.Core.List.{List, [], ◌∷◌, ◌++◌, map, map-append, append-nil}
use lib.ListN.{length}
use Rattle.bits.specs.Bytes.{low_bits, bits_of}
use Rattle.bits.proofs.Bytes.{low_bits-zero}
use Rattle.block.specs.declared.Method.TheVariants as method
use Rattle.block.specs.declared.Parity.{Parity}
use Rattle.block.specs.Characters.{with_parity}
use Rattle.block.specs.Diagonals.{diagonal_bits, turned}
use Rattle.block.specs.Check.{with_parity_bit, columns_of, diagonal_check, check_of, xor_all}
use Rattle.block.proofs.CheckLaws.{sums_are, with_parity-bits, matrix_character, diagonal-turned}
use Rattle.block_diagonals.specs.Sums.{turn_in, turn_all, sums_after, characters}
use Rattle.block_diagonals.proofs.Turning.{turn_all-append, turn_all_lt, bits-turn_all, high_byte, low_byte}

-- the counted bytes enter the register, then their row check
columns_summed : (bs : List ℕ) → columns_of bs ≡ map (low_bits 7) (bs ++ xor_all 0 bs ∷ [])
columns_summed bs = ap (λ z. map (low_bits 7) bs ++ z ∷ []) (sums_are bs) ∙ sym (map-append (low_bits 7) bs (xor_all 0 bs ∷ []))

diagonal-bits : (bs : List ℕ) → diagonal_bits (length bs) (columns_of bs) ≡ low_bits 7 (turn_in (turn_all 0 bs) (xor_all 0 bs))
unfolding turn_all
diagonal-bits bs =
    diagonal-turned bs ∙ ap₂ turned (sym (low_bits-zero 7)) (columns_summed bs) ∙ sym (bits-turn_all 0 (bs ++ xor_all 0 bs ∷ []))
    ∙ ap (low_bits 7) (turn_all-append 0 bs (xor_all 0 bs ∷ []))

diagonal_character : (p : Parity) (bs : List ℕ) → diagonal_check p bs ≡ low_bits 8 (with_parity p (turn_in (turn_all 0 bs) (xor_all 0 bs)))
unfolding diagonal_check
diagonal_character p bs = ap (with_parity_bit p) (diagonal-bits bs) ∙ sym (with_parity-bits p (turn_in (turn_all 0 bs) (xor_all 0 bs)))

two_characters : (p : Parity) (sums register : ℕ) → register < 256
    → bits_of (characters p (sums * 256 + register)) ≡ low_bits 8 (with_parity p sums) ++ low_bits 8 (with_parity p (turn_in register sums))
unfolding bits_of
two_characters p sums register h =
    ap₂ (λ i j. low_bits 8 (with_parity p i) ++ (low_bits 8 (with_parity p (turn_in j i)) ++ [])) (high_byte sums register h) (low_byte sums register h)
    ∙ ap (λ z. low_bits 8 (with_parity p sums) ++ z) (append-nil (low_bits 8 (with_parity p (turn_in register sums))))

pub characters-check : (p : Parity) (bs : List ℕ) → bits_of (characters p (sums_after 0 bs)) ≡ check_of method.Diagonal p bs
unfolding sums_after check_of
characters-check p bs =
    two_characters p (xor_all 0 bs) (turn_all 0 bs) (turn_all_lt 0 bs (lit< tt))
    ∙ sym (ap₂ ◌++◌ (matrix_character p bs) (diagonal_character p bs))
