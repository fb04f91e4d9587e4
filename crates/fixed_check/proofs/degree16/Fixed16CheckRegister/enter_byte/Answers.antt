-- `Fixed16::enter_byte` meets its contract: what a byte leaves was tested at every byte. Assumes nothing.
use borrow.Author.Rules.{rules}
use Rattle.fixed_polynomials.proofs.Bytes.{enters_16}
use Rattle.fixed_check.proofs.degree16.Fixed16CheckRegister.enter_byte.Goals as goal

pub returns : goal.returns
returns c = enters_16 c.args.self.register c.args.byte (search rules)
