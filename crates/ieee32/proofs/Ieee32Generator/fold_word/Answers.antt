-- `Ieee32::fold_word` meets its contract: a word is taken away and added further on. Assumes nothing.
use mathlib.Core.Path.{refl}
use mathlib.Core.List.{List, [], ◌∷◌}
use native.Mathlib.Omega.{arith}
use borrow.Author.Rules.{rules}
use lib.Bits.{xor_lt, xor_zero_r}
use lib.ListN.{get_or}
use Rattle.folding.proofs.Multiples.{ieee_multiple}
use Rattle.folding.proofs.Rows.{Place, across}
use Rattle.folding.proofs.Steps.{folds, listed}
use Rattle.ieee32.proofs.Ieee32Generator.fold_word.Goals as goal

-- the powers of the multiple as places in 5 words
abbrev places : List Place
places = across 1 17 47 2 ∷ across 1 55 9 2 ∷ across 2 19 45 1 ∷ across 3 44 20 0 ∷ []

pub returns : goal.returns
returns c =
    let f = c.args.pending in
    let a = get_or f 0 0 in
    folds places ieee_multiple 40 5 f a (get_or f 1 0 ∷ get_or f 2 0 ∷ get_or f 3 0 ∷ get_or f 4 0 ∷ []) c.args.word _ (listed 5 f (search rules)) refl
    ((refl, refl, refl), ((refl, refl, refl), ((refl, refl, refl), ((refl, refl, refl), refl)))) refl
    (xor_lt 64 a c.args.word (search rules) (search rules)) (simp xor_zero_r) (omega arith)
