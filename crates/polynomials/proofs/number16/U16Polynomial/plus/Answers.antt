-- `plus` meets its contract: exclusive or of numbers adds their bits. Assumes nothing.
use Rattle.bits.proofs.Bytes.{low_bits-xor}
use Rattle.polynomials.proofs.number16.U16Polynomial.plus.Goals as goal

pub returns : goal.returns
returns c = low_bits-xor 16 c.args.self c.args.other
