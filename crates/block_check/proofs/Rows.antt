-- The row check of method 7 in what was received, and questions 18 and 54 by it. Assumes nothing.
use mathlib.Core.Path.{◌≡◌, refl, sym, ap, ap₂, ◌∙◌}
use Prim.Native.Nat.{ℕ, ◌/◌, ◌≤◌, ◌<◌}
use native.Mathlib.Omega.{arith}
use mathlib.Core.Bool.{Bool, true, false, ◌&&◌}
use mathlib.Core.List.{List, [], ◌∷◌}
use lib.Dec.{eqb}
use lib.ListN.{length, get_or, take}
use lib.Seq.{take_at}
use Rattle.bits.specs.Strings.{same}
use Rattle.bits.specs.Bytes.{low_bits, bits_of}
use Rattle.bits.proofs.Bytes.{length-low_bits, low_bits_injective, equal_as_bits}
use Rattle.block.specs.declared.Method.{Method}
use Rattle.block.specs.declared.Method.TheVariants as method
use Rattle.block.specs.declared.Parity.{Parity}
use Rattle.block.specs.Characters.{with_parity}
use Rattle.block.specs.Read.{is_diagonal, first_asked, ReadAnswer, refusal, ask_same}
use Rattle.block.proofs.Asked.{ask_right, ask_second, ask_first}
use Rattle.block_check.specs.Numbers.{check_from}

first_byte : (b : ℕ) (rest : List ℕ) → take 8 (bits_of (b ∷ rest)) ≡ low_bits 8 b
unfolding bits_of
first_byte b rest = take_at (low_bits 8 b) (bits_of rest) 8 (length-low_bits 8 b)

pub none_received : (received : List ℕ) (c : ℕ) → length received < 1 → false ≡ same (take 8 (bits_of received)) (low_bits 8 c)
unfolding bits_of low_bits
none_received [] c h = refl
none_received (b ∷ rest) c h = absurd (omega arith)

pub row_received : (received : List ℕ) (c : ℕ) → 1 ≤ length received → get_or received 0 0 < 256 → c < 256
    → eqb (get_or received 0 0) c ≡ same (take 8 (bits_of received)) (low_bits 8 c)
row_received [] c h f k = absurd (omega arith)
row_received (b ∷ rest) c h f k =
    equal_as_bits b c (low_bits 8 b) (low_bits 8 c) (ap (low_bits 8)) (low_bits_injective 8 b c f k) ∙ ap (λ x. same x (low_bits 8 c)) (sym (first_byte b rest))

row_check : (p : Parity) (n : ℕ) → take 8 (check_from method.Diagonal p n) ≡ low_bits 8 (with_parity p (n / 256))
unfolding check_from
row_check p n = first_byte (with_parity p (n / 256)) _

-- what 18 asks, where the check is wrong
first_right : (m : Method) (p : Parity) (n : ℕ) (received : List Bool) → same received (check_from m p n) ≡ false
    → (is_diagonal m && same (take 8 received) (low_bits 8 (with_parity p (n / 256)))) ≡ same (first_asked m received) (first_asked m (check_from m p n))
first_right method.Parity p n r w = sym w
first_right method.Matrix p n r w = sym w
first_right method.Cyclic p n r w = sym w
first_right method.CyclicAlternative p n r w = sym w
first_right method.Diagonal p n r w = ap (same (take 8 r)) (sym (row_check p n))

module _ (m : Method) (p : Parity) (n : ℕ) (received : List Bool) {right : Bool} (s : right ≡ same received (check_from m p n)) where
  pub asked_right : right ≡ true → (next : ReadAnswer) → next ≡ ask_same m received (check_from m p n) next
  asked_right e next = sym (ask_right m received (check_from m p n) next (sym s ∙ e))

  module _ {diagonal row : Bool} (d : diagonal ≡ is_diagonal m) (r : row ≡ same (take 8 received) (low_bits 8 (with_parity p (n / 256)))) (wrong : right ≡ false) where
    first_is : (diagonal && row) ≡ same (first_asked m received) (first_asked m (check_from m p n))
    first_is = ap₂ (λ x y. x && y) d r ∙ first_right m p n received (sym s ∙ wrong)

    pub diagonal_wrong : (diagonal && row) ≡ true → (next : ReadAnswer) → refusal 54 0 ≡ ask_same m received (check_from m p n) next
    diagonal_wrong e next = sym (ask_second m received (check_from m p n) next (sym s ∙ wrong) (sym first_is ∙ e))

    pub first_wrong : (diagonal && row) ≡ false → (next : ReadAnswer) → refusal 18 0 ≡ ask_same m received (check_from m p n) next
    first_wrong e next = sym (ask_first m received (check_from m p n) next (sym first_is ∙ e))
