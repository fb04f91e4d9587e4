-- The check of two parts joined, from both checks and both lengths (document 02, card 10). Assumes nothing.
use Rattle.std.specs.Prelude.{ℕ, ◌+◌, ◌*◌, Bool, cond, nat_le, List, ◌++◌}
use Rattle.bits.specs.Strings.{xor_bits, zeros}
use Rattle.division.specs.Division.{remainder}
use Rattle.cyclic.specs.Check.{Parameters}

-- a · x^n + b modulo the divisor, n the second part's bits; leading zeros bring both to one length
unfoldable pub joined : List Bool → List Bool → List Bool → ℕ → List Bool
joined p a b n = remainder p (xor_bits (a ++ zeros n) (zeros n ++ b))

-- the bits of the joined check; or the number and the value of a refusal
pub data Answer : Type 0 where
  check : List Bool → Answer
  refused : ℕ → ℕ → Answer

-- of the checks a and b of parts of j and k bytes: is the joined content within the method's limit? 63
unfoldable pub join : Parameters → List Bool → ℕ → List Bool → ℕ → Answer
join m a j b k = cond (nat_le (j + k) m.limit) (check (joined m.generator a b (8 * k))) (refused 63 0)
