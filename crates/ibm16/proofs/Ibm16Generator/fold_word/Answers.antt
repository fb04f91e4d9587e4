-- `Ibm16::fold_word` meets its contract: a word is taken away and added further on. Assumes nothing.
use mathlib.Core.Path.{refl}
use mathlib.Core.List.{List, [], ◌∷◌}
use native.Mathlib.Omega.{arith}
use borrow.Author.Rules.{rules}
use lib.Bits.{xor_lt, xor_zero_r}
use lib.ListN.{get_or}
use Rattle.folding.proofs.Multiples.{ibm_multiple}
use Rattle.folding.proofs.Rows.{Place, whole, across}
use Rattle.folding.proofs.Steps.{folds, listed}
use Rattle.ibm16.proofs.Ibm16Generator.fold_word.Goals as goal

-- the powers of the multiple as places in 3 words
abbrev places : List Place
places = whole 0 2 ∷ across 0 48 16 1 ∷ across 0 56 8 1 ∷ across 1 48 16 0 ∷ across 1 56 8 0 ∷ []

pub returns : goal.returns
returns c =
    let f = c.args.pending in
    let a = get_or f 0 0 in
    folds places ibm_multiple 24 3 f a (get_or f 1 0 ∷ get_or f 2 0 ∷ []) c.args.word _ (listed 3 f (search rules)) refl
    ((refl, refl), ((refl, refl, refl), ((refl, refl, refl), ((refl, refl, refl), ((refl, refl, refl), refl))))) refl
    (xor_lt 64 a c.args.word (search rules) (search rules)) (simp xor_zero_r) (omega arith)
