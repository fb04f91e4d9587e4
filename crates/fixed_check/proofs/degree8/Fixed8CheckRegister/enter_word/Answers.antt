-- `Fixed8::enter_word` meets its contract: the map of words was tested at every single bit, and it keeps sums. Assumes nothing.
use borrow.Author.Rules.{rules}
use lib.Bits.{bit_xor, xor_lt}
use mir.Facts.{Fits-bits}
use Rattle.quotient.proofs.WordMaps.{number_fits}
use Rattle.fixed_polynomials.proofs.Words.{fixed8_word, word_enters_8}
use Rattle.fixed_check.proofs.degree8.Fixed8CheckRegister.enter_word.Goals as goal

pub overflow_cast-result : goal.overflow_cast-result
overflow_cast-result c =
    let a = c.args in
    Fits-bits 8 tt (number_fits fixed8_word 64 (bit_xor a.self.register a.word) (xor_lt 64 a.self.register a.word (search rules) (search rules)))

pub returns : goal.returns
returns c = word_enters_8 c.args.self.register c.args.word (search rules) (search rules)
