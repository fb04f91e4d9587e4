-- The bounds of the third property are met: accepted lines that differ in just the least number of bits, and bursts one bit longer
-- than those that never occur. Assumes nothing.
use Rattle.std.specs.Prelude.{◌≡◌, ℕ, ◌<◌, List, [], ◌∷◌, length}
use Rattle.bits.specs.Differences.{Burst}
use Rattle.block.specs.declared.Parity.{Parity}
use Rattle.block.specs.declared.Code.{Code}
use Rattle.block.specs.Signs.{koi7, table_of}
use Rattle.guarantees.specs.Lines.{Lines, TwoAccepted, distance, differing_checked}
use Rattle.guarantees.specs.Columns.{Counted, differing_columns}
use Rattle.guarantees.specs.Third.{method_1, method_2, method_3, method_4, method_5, method_6, method_7, lines_of}

-- two unequal accepted lines that differ in just n bits
pub record DifferInJust (n : ℕ) (L : Lines) : Type 0 where
  pub A : L.Line
  pub B : L.Line
  pub two_accepted : TwoAccepted L A B
  pub bits : distance L A B ≡ n

-- in just k bits, which are one burst of n bits and none of fewer
pub record DifferInBurst (n k : ℕ) (L : Lines) : Type 0 where
  pub A : L.Line
  pub B : L.Line
  pub two_accepted : TwoAccepted L A B
  pub bits : distance L A B ≡ k
  pub burst : Burst n (differing_checked L A B)
  pub none_shorter : (b : ℕ) → b < n → Burst b (differing_checked L A B) → ⊥

-- so, with as many checked bits as the burst has
pub record DifferFromEndToEnd (n k : ℕ) (L : Lines) : Type 0 where
  pub in_burst : DifferInBurst n k L
  pub checked : length (L.checked_bits in_burst.A) ≡ n

-- in just m bits, of these columns, with n counted bytes
pub record DifferInColumns (m n : ℕ) (columns : List ℕ) (L : Lines) : Type 0 where
  pub in_just : DifferInJust m L
  pub counted : Counted L in_just.A n
  pub columns_are : differing_columns L in_just.A in_just.B ≡ columns

pub record SharpBounds : Type 0 where
  pub distance-parity : (p : Parity) → DifferInJust 2 (lines_of (method_1 koi7 p))
  pub distance_matrix : (p : Parity) → DifferInJust 4 (lines_of (method_2 koi7 p))
  pub burst_matrix : (p : Parity) → DifferInBurst 10 4 (lines_of (method_2 koi7 p))
  -- under either code
  pub burst_3 : (c : Code) (p : Parity) → DifferInBurst 17 4 (lines_of (method_3 (table_of c) p))
  pub burst_4 : (c : Code) (p : Parity) → DifferInBurst 17 4 (lines_of (method_4 (table_of c) p))
  pub burst_5 : DifferInBurst 17 4 (lines_of method_5)
  pub burst_32 : DifferInBurst 33 15 (lines_of method_6)
  -- frames of one content bit (document 02, card 13), which with its check is the burst
  pub one_bit_5 : DifferFromEndToEnd 17 4 (lines_of method_5)
  pub one_bit_32 : DifferFromEndToEnd 33 15 (lines_of method_6)
  -- with n + 1 = 8, columns 1 and 8; with n + 1 = 3, six bits
  pub four_diagonal : (p : Parity) → DifferInColumns 4 7 (1 ∷ 1 ∷ 8 ∷ 8 ∷ []) (lines_of (method_7 koi7 p))
  pub six_diagonal : (p : Parity) → DifferInColumns 6 2 (1 ∷ 1 ∷ 3 ∷ 3 ∷ 4 ∷ 4 ∷ []) (lines_of (method_7 koi7 p))
