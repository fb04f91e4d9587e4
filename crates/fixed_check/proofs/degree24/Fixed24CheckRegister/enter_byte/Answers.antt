-- `Fixed24::enter_byte` meets its contract: what a byte leaves was tested at every byte. Assumes nothing.
use Rattle.fixed_polynomials.proofs.Bytes.{enters_24}
use Rattle.fixed_check.proofs.degree24.Fixed24CheckRegister.enter_byte.Goals as goal

pub returns : goal.returns
returns c = enters_24 c.args.self.register c.args.byte
