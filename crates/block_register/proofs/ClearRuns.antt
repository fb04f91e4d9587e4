-- A run of kept bytes in a clear text: found as the run of what is kept behind no DLE, and entered at once. Assumes nothing.
use mathlib.Core.Path.{◌≡◌, refl, sym, ap, ap₂, ◌∙◌}
use Prim.Native.Nat.{ℕ, suc, ◌+◌}
use native.Mathlib.Nat.{sub-zero}
use native.Mathlib.Omega.{arith}
use mathlib.Core.Bool.{Bool, true, false, cond}
use mathlib.Core.List.{List, [], ◌∷◌, ◌++◌}
use borrow.Author.Tests.{not-true}
use lib.Dec.{eqb}
use lib.ListN.{length, take, drop}
use Rattle.bits.specs.Differences.{cons_if}
use Rattle.block.specs.Signs.{CodeTable, table_of}
use Rattle.block.specs.Scan.{first_failing}
use Rattle.block.proofs.Scans.{reached}
use Rattle.block_framing.specs.Framings.{is_kept, next_behind, kept_bytes}
use Rattle.generator16.specs.Register.{register_after}
use Rattle.generator16.proofs.Registers.{after-nil, after-append}
use Rattle.block_segments.specs.declared.kept.Keeping.{Keeping}
use Rattle.block_segments.specs.Kept.{keeps, after, kept_of}
use Rattle.block_segments.proofs.Folding.{step}
use Rattle.runs.proofs.Runs.{shifted}
use Rattle.block_register.specs.Runs.{KeptRun}

pub run_none : (table : CodeTable) (behind : Bool) (part : List ℕ) → KeptRun table behind part 0 0
run_none table behind part = record { on = omega arith; within = omega arith; kept = refl }

-- a kept byte that stands behind no DLE is none itself
kept_state : (table : CodeTable) (b : ℕ) → is_kept table true false false b ≡ true → next_behind table true false b ≡ false
unfolding is_kept next_behind
kept_state table b e = not-true (eqb b table.DLE) e

abbrev run : CodeTable → List ℕ → ℕ
run table bs = first_failing (is_kept table true false false) 0 bs

split : (table : CodeTable) (bs : List ℕ) → kept_bytes table true false false bs ≡ take (run table bs) bs ++ kept_bytes table true false false (drop (run table bs) bs)
unfolding kept_bytes first_failing
split table [] = refl
split table (b ∷ bs) = go (is_kept table true false false b) refl (shifted (is_kept table true false false) 1 0 bs) (split table bs)
  where
    go : (t : Bool) → is_kept table true false false b ≡ t → first_failing (is_kept table true false false) 1 bs ≡ 1 + run table bs
        → kept_bytes table true false false bs ≡ take (run table bs) bs ++ kept_bytes table true false false (drop (run table bs) bs)
        → cons_if t b (kept_bytes table true false (next_behind table true false b) bs)
        ≡ take (cond t (first_failing (is_kept table true false false) 1 bs) 0) (b ∷ bs) ++ kept_bytes table true false false (drop (cond t (first_failing (is_kept table true false false) 1 bs) 0) (b ∷ bs))
    go true e n h =
        let m : first_failing (is_kept table true false false) 1 bs ≡ suc (run table bs) = omega (arith, n) in
        rw m (ap (λ z. b ∷ z) (ap (λ s. kept_bytes table true false s bs) (kept_state table b e) ∙ h))
    go false e n h = ap (λ t. cons_if t b (kept_bytes table true false (next_behind table true false b) bs)) (sym e)

pub run_kept : (table : CodeTable) (part : List ℕ) {n : ℕ} → n ≡ first_failing (is_kept table true false false) 0 part → KeptRun table false part 0 n
run_kept table part {n} e =
    record {
      on = omega arith;
      within = omega (arith, e, (reached (is_kept table true false false) 0 part).within);
      kept = rw (sub-zero n, e) (split table part);
    }

-- the run of a clear text, by the state of its bytes
run_of : {table : CodeTable} {clear seven behind : Bool} {bs : List ℕ} {n : ℕ} → clear ≡ true → seven ≡ false → KeptRun table behind bs 0 n
    → kept_bytes table clear seven behind bs ≡ take n bs ++ kept_bytes table clear seven behind (drop n bs)
run_of {table = table} {behind = behind} {bs = bs} {n = n} p q r = rw (p, q) (r.kept ∙ ap (λ m. take m bs ++ kept_bytes table true false behind (drop n bs)) (sub-zero n))

-- a byte of a clear text, and the run of kept bytes behind it at once
pub pass : (g : List Bool) (k : Keeping) (acc : ℕ) {total entered next b n : ℕ} {k' : Keeping} {rest bs kept left : List ℕ} {keep : Bool}
    → k.clear ≡ true → k.seven ≡ false → register_after g acc (kept_of k rest) ≡ total → rest ≡ b ∷ bs
    → keep ≡ keeps k b → entered ≡ register_after g acc (cons_if keep b []) → k' ≡ after k b
    → KeptRun (table_of k'.code) k'.behind bs 0 n → kept ≡ take n bs → left ≡ drop n bs → next ≡ register_after g entered kept
    → register_after g next (kept_of k' left) ≡ total
pass g k acc {entered = entered} {b = b} {n = n} {k' = k'} {bs = bs} p q w e keep one s r front back run_entered =
    ap₂ (λ x y. register_after g x (kept_of k' y)) (run_entered ∙ ap (register_after g entered) front) back
    ∙ sym (after-append g entered (take n bs) (kept_of k' (drop n bs)))
    ∙ ap (register_after g entered) (sym (run_of (ap (λ (x : Keeping). x.clear) s ∙ p) (ap (λ (x : Keeping). x.seven) s ∙ q) r))
    ∙ ap (λ x. register_after g entered (kept_of x bs)) s
    ∙ step (register_after g) (after-nil g) (after-append g) k b bs acc entered keep one
    ∙ ap (λ x. register_after g acc (kept_of k x)) (sym e) ∙ w

pub nothing-left : (g : List Bool) (k : Keeping) (acc : ℕ) (rest : List ℕ) {total : ℕ} → length rest ≡ 0 → register_after g acc (kept_of k rest) ≡ total → acc ≡ total
unfolding kept_bytes
nothing-left g k acc [] n w = sym (after-nil g acc) ∙ w
nothing-left g k acc (b ∷ bs) n w = absurd (omega (arith, n))
