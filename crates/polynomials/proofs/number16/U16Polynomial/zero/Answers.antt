-- `zero` meets its contract. Assumes nothing.
use Rattle.bits.proofs.Bytes.{low_bits-zero}
use Rattle.polynomials.proofs.number16.U16Polynomial.zero.Goals as goal

pub returns : goal.returns
returns c = low_bits-zero 16
