-- `Ccitt16::moved_up` meets its contract: zeros enter ahead of the polynomial. Assumes nothing.
use Rattle.bits.proofs.Bytes.{low_bits-zero}
use Rattle.division.specs.Generators.{ccitt16}
use Rattle.polynomials.proofs.Reduced.{moved_word}
use Rattle.polynomials.proofs.generators.Ccitt16Modulus.moved_up.Goals as goal

pub returns : goal.returns
unfolding ccitt16
returns c = moved_word ccitt16 48 16 c.args.polynomial _ _ (low_bits-zero 16) c.enter_word.ensures
