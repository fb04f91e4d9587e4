-- `Ieee32::enter_word` meets its contract: the map of words was tested at every single bit, and it keeps sums. Assumes nothing.
use mathlib.Core.Path.{refl, ap, ◌∙◌}
use borrow.Author.Rules.{rules}
use mir.Facts.{Fits-bits}
use Rattle.bits.specs.Bytes.{low_bits}
use Rattle.division.specs.Generators.{ieee32}
use Rattle.division.proofs.Generators.{ieee32_generator}
use Rattle.quotient.specs.WordMaps.{number, times_two}
use Rattle.quotient.proofs.WordMaps.{number_fits, word_enters}
use Rattle.quotient.proofs.Quotients.{ieee_rest, ieee_word, ieee_word_lem}
use Rattle.ieee32.proofs.Ieee32Generator.enter_word.Goals as goal

pub overflow_cast-result : goal.overflow_cast-result
overflow_cast-result c = Fits-bits 32 tt (number_fits ieee_rest 64 c.times_two-b.result (search rules))

pub returns : goal.returns
returns c =
    let a = c.args in
    ap (λ x. low_bits 32 (number ieee_rest x)) (c.times_two-b.ensures ∙ ap (number times_two) c.times_one.ensures)
    ∙ word_enters 32 32 ieee32 ieee_word ieee32_generator.width refl ieee_word_lem a.register a.word (search rules) (search rules)
