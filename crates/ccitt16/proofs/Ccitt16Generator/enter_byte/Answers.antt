-- `Ccitt16::enter_byte` meets its contract: what a byte leaves was tested at every byte. Assumes nothing.
use borrow.Author.Rules.{rules}
use Rattle.division.specs.Generators.{ccitt16}
use Rattle.division.proofs.Generators.{ccitt16_generator}
use Rattle.quotient.proofs.Quotients.{byte_enters, ccitt_byte, ccitt_byte_lem}
use Rattle.ccitt16.proofs.Ccitt16Generator.enter_byte.Goals as goal

pub returns : goal.returns
returns c =
    byte_enters 8 ccitt16 ccitt_byte ccitt16_generator.width ccitt_byte_lem c.args.register c.args.byte (search rules)
