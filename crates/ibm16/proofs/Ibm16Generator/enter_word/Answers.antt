-- `Ibm16::enter_word` meets its contract: the map of words was tested at every single bit, and it keeps sums. Assumes nothing.
use mathlib.Core.Path.{refl}
use borrow.Author.Rules.{rules}
use lib.Bits.{bit_xor, xor_lt}
use mir.Facts.{Fits-bits}
use Rattle.division.specs.Generators.{ibm16}
use Rattle.division.proofs.Generators.{ibm16_generator}
use Rattle.quotient.proofs.WordMaps.{number_fits, word_enters}
use Rattle.quotient.proofs.Quotients.{ibm_word, ibm_word_lem}
use Rattle.ibm16.proofs.Ibm16Generator.enter_word.Goals as goal

pub overflow_cast-result : goal.overflow_cast-result
overflow_cast-result c =
    let a = c.args in
    Fits-bits 16 tt (number_fits ibm_word 64 (bit_xor a.register a.word) (xor_lt 64 a.register a.word (search rules) (search rules)))

pub returns : goal.returns
returns c =
    word_enters 16 48 ibm16 ibm_word ibm16_generator.width refl ibm_word_lem c.args.register c.args.word (search rules) (search rules)
