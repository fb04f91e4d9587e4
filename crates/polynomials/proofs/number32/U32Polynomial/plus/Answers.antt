-- `plus` meets its contract: exclusive or of numbers adds their bits. Assumes nothing.
use Rattle.bits.proofs.Bytes.{low_bits-xor}
use Rattle.polynomials.proofs.number32.U32Polynomial.plus.Goals as goal

pub returns : goal.returns
returns c = low_bits-xor 32 c.args.self c.args.other
