-- A header or a plain text by pieces: what a piece keeps is stored at the start of 256 bytes, found there again, and entered at
-- once. Assumes nothing.
use mathlib.Core.Path.{◌≡◌, refl, sym, ap, ap₂, ◌∙◌}
use Prim.Native.Nat.{ℕ, ◌+◌, ◌≤◌}
use native.Mathlib.Omega.{arith}
use mathlib.Core.Bool.{Bool, false}
use mathlib.Core.List.{List, [], ◌∷◌, ◌++◌, map}
use lib.ListN.{length, take, drop}
use lib.Seq.{sets, sets-eq, length-sets, take_at}
use Rattle.bits.specs.Differences.{cons_if}
use Rattle.generator16.specs.Register.{register_after}
use Rattle.generator16.proofs.Registers.{after-nil, after-append}
use Rattle.block.specs.Signs.{CodeTable}
use Rattle.block.specs.Characters.{character}
use Rattle.block_framing.specs.Framings.{is_kept, next_behind, kept_bytes}
use Rattle.block_segments.proofs.KeptLaws.{cons_if-append, kept_le}

kept_append : (table : CodeTable) (seven : Bool) (xs ys : List ℕ) → kept_bytes table false seven false (xs ++ ys) ≡ kept_bytes table false seven false xs ++ kept_bytes table false seven false ys
unfolding kept_bytes next_behind
kept_append table seven [] ys = refl
kept_append table seven (x ∷ xs) ys =
    ap (cons_if (is_kept table false seven false x) x) (kept_append table seven xs ys)
    ∙ cons_if-append (is_kept table false seven false x) x (kept_bytes table false seven false xs) (kept_bytes table false seven false ys)

map-character : (bs : List ℕ) → map (character false) bs ≡ bs
unfolding character
map-character [] = refl
map-character (b ∷ bs) = ap (λ l. b ∷ l) (map-character bs)

abbrev kept : CodeTable → List ℕ → List ℕ
kept table bs = kept_bytes table false false false bs

-- a piece at once
pub piece : (table : CodeTable) (g : List Bool) (acc : ℕ) (part left : List ℕ) {total next : ℕ} {rest : List ℕ} → register_after g acc (kept table rest) ≡ total → rest ≡ part ++ left
    → next ≡ register_after g acc (kept table part) → register_after g next (kept table left) ≡ total
piece table g acc part left w e n =
    ap (λ x. register_after g x (kept table left)) n ∙ sym (after-append g acc (kept table part) (kept table left))
    ∙ ap (register_after g acc) (sym (ap (kept table) e ∙ kept_append table false part left)) ∙ w

pub no_piece : (table : CodeTable) (g : List Bool) (acc : ℕ) (rest : List ℕ) {total : ℕ} → length rest ≡ 0 → register_after g acc (kept table rest) ≡ total → acc ≡ total
unfolding kept_bytes
no_piece table g acc [] n w = sym (after-nil g acc) ∙ w
no_piece table g acc (b ∷ bs) n w = absurd (omega (arith, n))

-- the bytes gathered
module _ (table : CodeTable) (part before : List ℕ) (size : length before ≡ 256) (short : length part ≤ 256) {n : ℕ} {gathered : List ℕ}
    (e : n ≡ length (kept table part)) (g : gathered ≡ sets before 0 (map (character false) (kept table part))) where
  few : 0 + length (kept table part) ≤ length before
  few = omega (arith, kept_le table false false false part, short, size)

  pub gathered_size : length gathered ≡ 256
  gathered_size = ap length g ∙ length-sets before 0 (map (character false) (kept table part)) ∙ size

  pub gathered_fits : n ≤ length gathered
  gathered_fits = omega (arith, e, few, size, gathered_size)

  pub gathered_is : take n gathered ≡ kept table part
  gathered_is =
      ap₂ take e (g ∙ ap (sets before 0) (map-character (kept table part)) ∙ sets-eq (kept table part) before 0 few) ∙ take_at (kept table part) (drop (0 + length (kept table part)) before) (length (kept table part)) refl

  pub gathered_length : n ≡ length (take n gathered)
  gathered_length = omega (arith, e, ap length gathered_is)
