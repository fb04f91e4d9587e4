-- `Ccitt16::fold_word` meets its contract: a word is taken away and added further on. Assumes nothing.
use mathlib.Core.Path.{refl}
use mathlib.Core.List.{List, [], ◌∷◌}
use native.Mathlib.Omega.{arith}
use borrow.Author.Rules.{rules}
use lib.Bits.{xor_lt, xor_zero_r}
use lib.ListN.{get_or}
use Rattle.folding.proofs.Multiples.{ccitt_multiple}
use Rattle.folding.proofs.Rows.{Place, whole, across}
use Rattle.folding.proofs.Steps.{folds, listed}
use Rattle.ccitt16.proofs.Ccitt16Generator.fold_word.Goals as goal

-- the powers of the multiple as places in 4 words
abbrev places : List Place
places = whole 0 3 ∷ across 1 48 16 1 ∷ whole 3 0 ∷ []

pub returns : goal.returns
returns c =
    let f = c.args.pending in
    let a = get_or f 0 0 in
    folds places ccitt_multiple 32 4 f a (get_or f 1 0 ∷ get_or f 2 0 ∷ get_or f 3 0 ∷ []) c.args.word _ (listed 4 f (search rules)) refl
    ((refl, refl), ((refl, refl, refl), ((refl, refl), refl))) refl (xor_lt 64 a c.args.word (search rules) (search rules)) (simp xor_zero_r) (omega arith)
