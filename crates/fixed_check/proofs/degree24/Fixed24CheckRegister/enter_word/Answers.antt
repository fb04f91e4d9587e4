-- `Fixed24::enter_word` meets its contract: the map of words was tested at every single bit, and it keeps sums. Assumes nothing.
use borrow.Author.Rules.{rules}
use Rattle.fixed_polynomials.proofs.Words.{word_enters_24}
use Rattle.fixed_check.proofs.degree24.Fixed24CheckRegister.enter_word.Goals as goal

pub returns : goal.returns
returns c = word_enters_24 c.args.self.register c.args.word (search rules)
