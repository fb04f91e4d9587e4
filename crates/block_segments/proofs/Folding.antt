-- Loops that fold the kept bytes of a segment into a register or a sum: what is left gives the whole. Assumes nothing.
use mathlib.Core.Path.{◌≡◌, sym, ap, ap₂, ◌∙◌}
use Prim.Native.Nat.{ℕ, suc, ◌+◌, ◌≤◌, ◌<◌}
use native.Mathlib.Numerals.{add-one}
use mathlib.Core.Bool.{Bool, true, false}
use mathlib.Core.List.{List, [], ◌∷◌, ◌++◌}
use lib.ListN.{length, get_or, drop, drop_of_length-le}
use lib.Seq.{drop-cons}
use Rattle.bits.specs.Differences.{cons_if}
use Rattle.block_framing.specs.Framings.{kept_bytes}
use Rattle.block_segments.specs.declared.kept.Keeping.{Keeping}
use Rattle.block_segments.specs.Kept.{keeps, after, kept_of}

module _ (fold : ℕ → List ℕ → ℕ) (fold-nil : (a : ℕ) → fold a [] ≡ a) (fold-append : (a : ℕ) (xs ys : List ℕ) → fold a (xs ++ ys) ≡ fold (fold a xs) ys) where
  -- the next byte, kept or not
  pub step : (k : Keeping) (b : ℕ) (bs : List ℕ) (acc next : ℕ) {keep : Bool} → keep ≡ keeps k b → next ≡ fold acc (cons_if keep b []) → fold next (kept_of (after k b) bs) ≡ fold acc (kept_of k (b ∷ bs))
  unfolding kept_bytes
  step k b bs acc next {keep} e n = rw (n, e) (go (keeps k b))
    where
      go : (t : Bool) → fold (fold acc (cons_if t b [])) (kept_of (after k b) bs) ≡ fold acc (cons_if t b (kept_of (after k b) bs))
      go true = sym (fold-append acc (b ∷ []) (kept_of (after k b) bs))
      go false = ap (λ a. fold a (kept_of (after k b) bs)) (fold-nil acc)

  module _ (part : List ℕ) (i : ℕ) where
    pub turn : {acc total : ℕ} (k : Keeping) → fold acc (kept_of k (drop i part)) ≡ total → i < length part
        → {keep : Bool} {next : ℕ} {k' : Keeping} → keep ≡ keeps k (get_or part i 0) → next ≡ fold acc (cons_if keep (get_or part i 0) []) → k' ≡ after k (get_or part i 0)
        → fold next (kept_of k' (drop (i + 1) part)) ≡ total
    turn {acc} k w h {keep} {next} e n s =
        ap₂ (λ x m. fold next (kept_of x (drop m part))) s (add-one i)
        ∙ step k (get_or part i 0) (drop (suc i) part) acc next e n ∙ sym (ap (λ l. fold acc (kept_of k l)) (drop-cons part i 0 h)) ∙ w

    pub whole : {acc total : ℕ} (k : Keeping) → fold acc (kept_of k (drop i part)) ≡ total → length part ≤ i → acc ≡ total
    unfolding kept_bytes
    whole {acc} k w h = sym (fold-nil acc) ∙ sym (ap (λ l. fold acc (kept_of k l)) (drop_of_length-le part h)) ∙ w
