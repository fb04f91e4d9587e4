-- `Ibm16::enter_byte` meets its contract: what a byte leaves was tested at every byte. Assumes nothing.
use borrow.Author.Rules.{rules}
use Rattle.division.specs.Generators.{ibm16}
use Rattle.division.proofs.Generators.{ibm16_generator}
use Rattle.quotient.proofs.Quotients.{byte_enters, ibm_byte, ibm_byte_lem}
use Rattle.ibm16.proofs.Ibm16Generator.enter_byte.Goals as goal

pub returns : goal.returns
returns c =
    byte_enters 8 ibm16 ibm_byte ibm16_generator.width ibm_byte_lem c.args.register c.args.byte (search rules)
