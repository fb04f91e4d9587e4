-- The rule of the diagonals is the source's (000, appendix): with n = 9 its seven sums are the formulas of figure 2, in the rows of
-- figure 1. Assumes nothing.
use mathlib.Core.Path.{◌≡◌, ap}
use Prim.Native.Nat.{ℕ}
use mathlib.Core.Bool.{Bool, xor}
use mathlib.Core.List.{List, [], ◌∷◌}
use Rattle.bits.proofs.Strings.{false-xor, xor-false}
use Rattle.block.specs.Diagonals.{sum_of_columns, diagonals_from, in_rows, diagonal_bits}

infixr 60 ◌⊕◌
abbrev ◌⊕◌ : Bool → Bool → Bool
x ⊕ y = xor x y

-- figure 1: bit a i j is in row i of counted byte j, bit r i in row i of the row check
module _ (a : ℕ → ℕ → Bool) (r : ℕ → Bool) where
  abbrev column : ℕ → List Bool
  column j = a 1 j ∷ a 2 j ∷ a 3 j ∷ a 4 j ∷ a 5 j ∷ a 6 j ∷ a 7 j ∷ []

  abbrev pub figure_1 : List (List Bool)
  figure_1 =
      column 1 ∷ column 2 ∷ column 3 ∷ column 4 ∷ column 5 ∷ column 6 ∷ column 7 ∷ column 8 ∷ column 9
      ∷ (r 1 ∷ r 2 ∷ r 3 ∷ r 4 ∷ r 5 ∷ r 6 ∷ r 7 ∷ []) ∷ []

  -- figure 2
  abbrev pub p1 : Bool
  p1 = a 1 1 ⊕ a 2 2 ⊕ a 3 3 ⊕ a 4 4 ⊕ a 5 5 ⊕ a 6 6 ⊕ a 7 7 ⊕ a 1 8 ⊕ a 2 9 ⊕ r 3

  abbrev pub p2 : Bool
  p2 = a 2 1 ⊕ a 3 2 ⊕ a 4 3 ⊕ a 5 4 ⊕ a 6 5 ⊕ a 7 6 ⊕ a 1 7 ⊕ a 2 8 ⊕ a 3 9 ⊕ r 4

  abbrev pub p3 : Bool
  p3 = a 3 1 ⊕ a 4 2 ⊕ a 5 3 ⊕ a 6 4 ⊕ a 7 5 ⊕ a 1 6 ⊕ a 2 7 ⊕ a 3 8 ⊕ a 4 9 ⊕ r 5

  abbrev pub p4 : Bool
  p4 = a 4 1 ⊕ a 5 2 ⊕ a 6 3 ⊕ a 7 4 ⊕ a 1 5 ⊕ a 2 6 ⊕ a 3 7 ⊕ a 4 8 ⊕ a 5 9 ⊕ r 6

  abbrev pub p5 : Bool
  p5 = a 5 1 ⊕ a 6 2 ⊕ a 7 3 ⊕ a 1 4 ⊕ a 2 5 ⊕ a 3 6 ⊕ a 4 7 ⊕ a 5 8 ⊕ a 6 9 ⊕ r 7

  abbrev pub p6 : Bool
  p6 = a 6 1 ⊕ a 7 2 ⊕ a 1 3 ⊕ a 2 4 ⊕ a 3 5 ⊕ a 4 6 ⊕ a 5 7 ⊕ a 6 8 ⊕ a 7 9 ⊕ r 1

  abbrev pub p7 : Bool
  p7 = a 7 1 ⊕ a 1 2 ⊕ a 2 3 ⊕ a 3 4 ⊕ a 4 5 ⊕ a 5 6 ⊕ a 6 7 ⊕ a 7 8 ⊕ a 1 9 ⊕ r 2

  q1 : sum_of_columns 1 1 figure_1 ≡ p1
  q1 = simp (false-xor, xor-false)

  q2 : sum_of_columns 2 1 figure_1 ≡ p2
  q2 = simp (false-xor, xor-false)

  q3 : sum_of_columns 3 1 figure_1 ≡ p3
  q3 = simp (false-xor, xor-false)

  q4 : sum_of_columns 4 1 figure_1 ≡ p4
  q4 = simp (false-xor, xor-false)

  q5 : sum_of_columns 5 1 figure_1 ≡ p5
  q5 = simp (false-xor, xor-false)

  q6 : sum_of_columns 6 1 figure_1 ≡ p6
  q6 = simp (false-xor, xor-false)

  q7 : sum_of_columns 7 1 figure_1 ≡ p7
  q7 = simp (false-xor, xor-false)

  pub figure_2 : diagonals_from 1 figure_1 ≡ p1 ∷ p2 ∷ p3 ∷ p4 ∷ p5 ∷ p6 ∷ p7 ∷ []
  figure_2 = rw (q1, q2, q3, q4, q5, q6, q7)

  pub in_rows_of_figure_1 : diagonal_bits 9 figure_1 ≡ p5 ∷ p6 ∷ p7 ∷ p1 ∷ p2 ∷ p3 ∷ p4 ∷ []
  unfolding diagonal_bits
  in_rows_of_figure_1 = ap (in_rows 9) figure_2
