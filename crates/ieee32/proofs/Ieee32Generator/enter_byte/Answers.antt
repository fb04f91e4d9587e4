-- `Ieee32::enter_byte` meets its contract: what a byte leaves was tested at every byte. Assumes nothing.
use borrow.Author.Rules.{rules}
use Rattle.division.specs.Generators.{ieee32}
use Rattle.division.proofs.Generators.{ieee32_generator}
use Rattle.quotient.proofs.Quotients.{byte_enters, ieee_byte, ieee_byte_lem}
use Rattle.ieee32.proofs.Ieee32Generator.enter_byte.Goals as goal

pub returns : goal.returns
returns c =
    byte_enters 24 ieee32 ieee_byte ieee32_generator.width ieee_byte_lem c.args.register c.args.byte (search rules)
