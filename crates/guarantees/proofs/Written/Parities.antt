-- Question 12: every byte of a line that methods 1, 2 and 7 write has the right parity, the check characters too.
-- Assumes nothing.
use mathlib.Core.Path.{◌≡◌, refl, sym, ap, ap₂, ◌∙◌}
use Prim.Native.Nat.{ℕ, ◌+◌, ◌%◌}
use native.Mathlib.Omega.{arith}
use mathlib.Core.Bool.{Bool, true, false, beq, cond, xor}
use mathlib.Core.List.{List, [], ◌∷◌, ◌++◌, map, append-nil}
use lib.ListN.{length}
use Rattle.bits.specs.Strings.{parity}
use Rattle.bits.specs.Bytes.{low_bits, bits_of, value, pack, pack_into}
use Rattle.bits.proofs.Strings.{xor_cancel, parity_snoc}
use Rattle.bits.proofs.Packing.{pack-low_bits, pack-bits_of}
use Rattle.block.specs.declared.Method.{Method}
use Rattle.block.specs.declared.Method.TheVariants as method
use Rattle.block.specs.declared.Parity.{Parity}
use Rattle.block.specs.Characters.{is_seven, is_odd, parity_right, with_parity, sent}
use Rattle.block.specs.Diagonals.{diagonal_bits}
use Rattle.block.specs.Check.{row_sums, matrix_check, columns_of, diagonal_check, check_of, xor_all}
use Rattle.block.specs.Read.{Framed, ask_parities}
use Rattle.block.proofs.DiagonalRegister.{length-diagonal_bits}
use Rattle.block.proofs.CheckLaws.{with_parity-bits, with_parity_lt, matrix_character, parity_bit-character, length-sums}

module _ (p : Parity) where
  beq_self : (x : Bool) → beq x x ≡ true
  beq_self true = refl
  beq_self false = refl

  pub right-character : (c : ℕ) → parity_right p (with_parity p c) ≡ true
  unfolding parity_right
  right-character c =
      let s = low_bits 7 c in
      ap (λ z. beq (parity z) (is_odd p)) (with_parity-bits p c)
      ∙ ap (λ t. beq t (is_odd p)) (parity_snoc s (xor (is_odd p) (parity s)) ∙ xor_cancel (is_odd p) (parity s))
      ∙ beq_self (is_odd p)

  sent_parities : (cs rest : List ℕ) (at : ℕ) (next : Framed) → ((n : ℕ) → ask_parities p rest n next ≡ next)
      → ask_parities p (map (sent true p) cs ++ rest) at next ≡ next
  unfolding sent
  sent_parities [] rest at next h = h at
  sent_parities (c ∷ cs) rest at next h = rw (right-character c) (sent_parities cs rest (at + 1) next h)

  matrix_parity : (bs : List ℕ) (next : Framed) (at : ℕ) → ask_parities p (pack (check_of method.Matrix p bs)) at next ≡ next
  unfolding check_of
  matrix_parity bs next at =
      let c = with_parity p (xor_all 0 bs) in
      let e : c % 256 ≡ c = omega (arith, with_parity_lt p (xor_all 0 bs)) in
      rw (matrix_character p bs, pack-low_bits 1 c, e, right-character (xor_all 0 bs))

  -- both characters, by their seven bits
  two_characters : (bs : List ℕ) → (a : ℕ) × (b : ℕ) × (check_of method.Diagonal p bs ≡ bits_of (with_parity p a ∷ with_parity p b ∷ []))
  unfolding check_of matrix_check diagonal_check bits_of
  two_characters bs =
      let ds = diagonal_bits (length bs) (columns_of bs) in (
        value (row_sums bs),
        value ds,
        ap₂ ◌++◌ (parity_bit-character p (row_sums bs) (length-sums bs))
            (parity_bit-character p ds (length-diagonal_bits (length bs) (columns_of bs)) ∙ sym (append-nil (low_bits 8 (with_parity p (value ds))))),
      )

  diagonal_parity : (bs : List ℕ) (next : Framed) (at : ℕ) → ask_parities p (pack (check_of method.Diagonal p bs)) at next ≡ next
  diagonal_parity bs next at =
      let t = two_characters bs in
      ap (λ s. ask_parities p (pack s) at next) t.2
      ∙ ap (λ l. ask_parities p l at next) (pack-bits_of (with_parity p t.0 ∷ with_parity p t.1 ∷ []) (with_parity_lt p t.0, (with_parity_lt p t.1, tt)))
      ∙ rw (right-character t.0, right-character t.1)

  pub written_parities : (m : Method) (cs bs : List ℕ) (next : Framed)
      → cond (is_seven m) (ask_parities p (map (sent (is_seven m) p) cs ++ pack (check_of m p bs)) 0 next) next ≡ next
  unfolding check_of pack pack_into
  written_parities method.Parity cs bs next = sent_parities cs [] 0 next (λ n. refl)
  written_parities method.Matrix cs bs next = sent_parities cs (pack (check_of method.Matrix p bs)) 0 next (matrix_parity bs next)
  written_parities method.Cyclic cs bs next = refl
  written_parities method.CyclicAlternative cs bs next = refl
  written_parities method.Diagonal cs bs next = sent_parities cs (pack (check_of method.Diagonal p bs)) 0 next (diagonal_parity bs next)
