-- `word_at` meets its contract: the content has eight bytes there, or none are read. Assumes nothing.
use mathlib.Core.Path.{sym, ap, ◌∙◌}
use native.Mathlib.Omega.{arith}
use lib.ListN.{take}
use Rattle.bits.specs.Bytes.{bits_of}
use Rattle.words.proofs.Within.{word-within, no_word}
use Rattle.words.proofs.word_at.Goals as goal

pub returns-then-at-content : goal.returns-then-at-content
returns-then-at-content c = no_word _ _ (omega arith)

pub returns-in-Some : goal.returns-in-Some
returns-in-Some c =
    let eight = c.in-Some.ensures.cases in
    c.word.ensures ∙ ap bits_of (eight.same ∙ ap (take 8) c.split_at.ensures.back)
    ∙ sym (word-within _ _ (omega (arith, eight.enough)))

pub returns-in-None : goal.returns-in-None
returns-in-None c = no_word _ _ (omega (arith, c.in-None.ensures.cases))
