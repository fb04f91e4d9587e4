-- Words that enter one after the other, and the bytes behind them. Assumes nothing.
use mathlib.Core.Path.{◌≡◌, sym, ap, ◌∙◌}
use Prim.Native.Nat.{ℕ, ◌+◌, ◌*◌, ◌<◌}
use mathlib.Core.Bool.{Bool}
use mathlib.Core.List.{List, [], ◌∷◌, ◌++◌, append-nil}
use lib.ListN.{length, take, drop, get_or}
use Rattle.std.specs.List.{concat}
use Rattle.std.specs.Simd.{first_chunks}
use Rattle.std.proofs.lemmas.List.{take_more}
use Rattle.std.proofs.lemmas.List.Folds.{concat-append}
use Rattle.bits.specs.Bytes.{low_bits, bits_of}
use Rattle.bits.proofs.Bytes.{bits_of-append}
use Rattle.registers.specs.Register.{enter}
use Rattle.registers.proofs.Enter.{enter-append}
use Rattle.folding.proofs.Contents.{parts}

pub next_word : (p r : List Bool) (words : List (List ℕ)) (i : ℕ) (d : List ℕ) (v : ℕ) → i < length words → low_bits 64 v ≡ bits_of (get_or words i d)
    → enter p (enter p r (bits_of (concat (take i words)))) (low_bits 64 v) ≡ enter p r (bits_of (concat (take (i + 1) words)))
next_word p r words i d v below e =
    let before = concat (take i words) in
    let c = get_or words i d in
    sym (enter-append p r (bits_of before) (low_bits 64 v))
    ∙ ap (enter p r)
    (ap (λ z. bits_of before ++ z) (e ∙ ap bits_of (sym (append-nil c))) ∙ sym (bits_of-append before (c ++ []))
    ∙ ap bits_of (sym (concat-append (take i words) (c ∷ [])) ∙ ap concat (sym (take_more words i d below))))

pub words_then_bytes : (p r : List Bool) (content : List ℕ) (k : ℕ) {words : List (List ℕ)} {tail : List ℕ} → words ≡ first_chunks 8 k content → tail ≡ drop (k * 8) content
    → enter p (enter p r (bits_of (concat words))) (bits_of tail) ≡ enter p r (bits_of content)
unfolding bits_of enter
words_then_bytes p r content k {words} {tail} front back =
    rw (front, back)
    (sym (enter-append p r (bits_of (concat (first_chunks 8 k content))) (bits_of (drop (k * 8) content))) ∙ ap (enter p r) (parts 0 k content))
