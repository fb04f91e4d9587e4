-- `Fixed8::enter_byte` meets its contract: what a byte leaves was tested at every byte. Assumes nothing.
use borrow.Author.Rules.{rules}
use Rattle.fixed_polynomials.proofs.Bytes.{enters_8}
use Rattle.fixed_check.proofs.degree8.Fixed8CheckRegister.enter_byte.Goals as goal

pub returns : goal.returns
returns c = enters_8 c.args.self.register c.args.byte (search rules) (search rules)
