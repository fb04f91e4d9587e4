-- The bytes that a segment keeps: what one byte adds, and how many they are. Assumes nothing.
use mathlib.Core.Path.{◌≡◌, refl, sym, ap, ◌∙◌}
use Prim.Native.Nat.{ℕ, ◌≤◌}
use native.Mathlib.Omega.{arith}
use mathlib.Core.Bool.{Bool, true, false, cond}
use mathlib.Core.List.{List, [], ◌∷◌, ◌++◌}
use borrow.Author.Tests.{eqb-true}
use lib.Dec.{eqb}
use lib.ListN.{length}
use Rattle.bits.specs.Differences.{cons_if}
use Rattle.block.specs.Signs.{CodeTable}
use Rattle.block_framing.specs.Framings.{is_kept, next_behind, kept_bytes}
use Rattle.block_segments.specs.Segment.{segment_bytes}

pub cons_if-append : (t : Bool) (b : ℕ) (xs ys : List ℕ) → cons_if t b (xs ++ ys) ≡ cons_if t b xs ++ ys
cons_if-append true b xs ys = refl
cons_if-append false b xs ys = refl

-- ---- a segment that keeps every byte

pub kept_le : (t : CodeTable) (clear seven behind : Bool) (bs : List ℕ) → length (kept_bytes t clear seven behind bs) ≤ length bs
unfolding kept_bytes
kept_le t clear seven behind [] = omega arith
kept_le t clear seven behind (b ∷ bs) = go (kept_bytes t clear seven (next_behind t clear behind b) bs) (is_kept t clear seven behind b) (kept_le t clear seven (next_behind t clear behind b) bs)
  where
    go : (ks : List ℕ) (keep : Bool) → length ks ≤ length bs → length (cons_if keep b ks) ≤ length (b ∷ bs)
    go ks true h = omega arith
    go ks false h = omega arith

kept-all : (t : CodeTable) (clear seven behind : Bool) (bs : List ℕ) → length (kept_bytes t clear seven behind bs) ≡ length bs → kept_bytes t clear seven behind bs ≡ bs
unfolding kept_bytes
kept-all t clear seven behind [] e = refl
kept-all t clear seven behind (b ∷ bs) e =
    go (kept_bytes t clear seven (next_behind t clear behind b) bs) (is_kept t clear seven behind b) (kept_le t clear seven (next_behind t clear behind b) bs) (kept-all t clear seven (next_behind t clear behind b) bs) e
  where
    go : (ks : List ℕ) (keep : Bool) → length ks ≤ length bs → (length ks ≡ length bs → ks ≡ bs) → length (cons_if keep b ks) ≡ length (b ∷ bs) → cons_if keep b ks ≡ b ∷ bs
    go ks true h f q = ap (λ l. b ∷ l) (f (omega (arith, q)))
    go ks false h f q = absurd (omega (arith, h, q))

-- a segment with the right number
pub segment_kept : (t : CodeTable) (clear seven : Bool) (kept : ℕ) (part : List ℕ) → kept ≡ length (kept_bytes t clear seven false part) → segment_bytes t clear seven kept part ≡ kept_bytes t clear seven false part
segment_kept t clear seven kept part e = go (eqb kept (length part)) refl
  where
    go : (all : Bool) → eqb kept (length part) ≡ all → cond all part (kept_bytes t clear seven false part) ≡ kept_bytes t clear seven false part
    go true q = sym (kept-all t clear seven false part (sym e ∙ eqb-true kept (length part) q))
    go false q = refl
