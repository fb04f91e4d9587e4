-- `Ieee32::moved_up` meets its contract: zeros enter ahead of the polynomial. Assumes nothing.
use Rattle.bits.proofs.Bytes.{low_bits-zero}
use Rattle.division.specs.Generators.{ieee32}
use Rattle.polynomials.proofs.Reduced.{moved_word}
use Rattle.polynomials.proofs.generators.Ieee32Modulus.moved_up.Goals as goal

pub returns : goal.returns
unfolding ieee32
returns c = moved_word ieee32 32 32 c.args.polynomial _ _ (low_bits-zero 32) c.enter_word.ensures
