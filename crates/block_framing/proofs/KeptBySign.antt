-- What one byte adds to the kept bytes, by its sign. Assumes nothing.
use mathlib.Core.Path.{◌≡◌, refl, ap, ◌∙◌}
use Prim.Native.Nat.{ℕ}
use mathlib.Core.Bool.{Bool, true, false, not}
use mathlib.Core.List.{List, ◌∷◌}
use lib.Dec.{eqb}
use Rattle.bits.specs.Differences.{cons_if}
use Rattle.block.specs.Signs.{CodeTable, Sign, sign_of, is_syn, is_dle}
use Rattle.block.specs.Characters.{character}
use Rattle.block.proofs.SignTests.{syn_test, dle_test}
use Rattle.block_framing.specs.Framings.{is_kept, next_behind, kept_bytes}

-- ---- the bytes kept, one at a time

kept_cons : (table : CodeTable) (clear seven behind x y : Bool) (b : ℕ) (bs : List ℕ) → is_kept table clear seven behind b ≡ x → next_behind table clear behind b ≡ y
    → kept_bytes table clear seven behind (b ∷ bs) ≡ cons_if x b (kept_bytes table clear seven y bs)
unfolding kept_bytes
kept_cons table clear seven behind x y b bs p q = rw (p, q)

-- in a header or plain text
pub kept_plain : (table : CodeTable) (seven : Bool) (b : ℕ) (bs : List ℕ) (s : Sign) → sign_of table (character seven b) ≡ s
    → kept_bytes table false seven false (b ∷ bs) ≡ cons_if (not (is_syn s)) b (kept_bytes table false seven false bs)
unfolding is_kept next_behind
kept_plain table seven b bs s e =
    kept_cons table false seven false (not (is_syn s)) false b bs (ap not (syn_test table (character seven b) ∙ ap is_syn e)) refl

-- in clear text
pub kept_clear : (table : CodeTable) (b : ℕ) (bs : List ℕ) (s : Sign) → sign_of table (character false b) ≡ s
    → kept_bytes table true false false (b ∷ bs) ≡ cons_if (not (is_dle s)) b (kept_bytes table true false (is_dle s) bs)
unfolding character is_kept next_behind
kept_clear table b bs s e =
    let d : eqb b table.DLE ≡ is_dle s = dle_test table b ∙ ap is_dle e in
    kept_cons table true false false (not (is_dle s)) (is_dle s) b bs (ap not d) d

-- behind a DLE of clear text
pub kept-behind : (table : CodeTable) (b : ℕ) (bs : List ℕ) (s : Sign) → sign_of table (character false b) ≡ s
    → kept_bytes table true false true (b ∷ bs) ≡ cons_if (not (is_syn s)) b (kept_bytes table true false false bs)
unfolding character is_kept next_behind
kept-behind table b bs s e =
    kept_cons table true false true (not (is_syn s)) false b bs (ap not (syn_test table b ∙ ap is_syn e)) refl
