-- The class of a character against one sign. Assumes nothing.
use mathlib.Core.Path.{◌≡◌, refl, ap, ◌∙◌}
use Prim.Native.Nat.{ℕ}
use mathlib.Core.Bool.{Bool, true, false, cond}
use lib.Dec.{eqb}
use borrow.Author.Tests.{eqb-true, eq-eqb}
use Rattle.block.specs.Signs.{CodeTable, Sign, soh, stx, etx, dle, syn, etb, us, sign_of, is_syn, is_dle}
use Rattle.block.proofs.Tables.{differ, differ_back}

-- one `cond` of `sign_of`, where the test is against v
else_test : (is : Sign → Bool) (b v c : ℕ) (s r : Sign) → eqb c v ≡ is s → (eqb b c ≡ false → eqb b v ≡ is r)
    → eqb b v ≡ is (cond (eqb b c) s r)
else_test is b v c s r p q = go (eqb b c) refl
  where
    go : (t : Bool) → eqb b c ≡ t → eqb b v ≡ is (cond t s r)
    go true e = ap (λ n. eqb n v) (eqb-true b c e) ∙ p
    go false e = q e

module _ (t : CodeTable) (b : ℕ) where
  pub syn_test : eqb b t.SYN ≡ is_syn (sign_of t b)
  unfolding sign_of
  syn_test =
      else_test is_syn b t.SYN t.SOH soh _ (differ t 0 4 refl refl) (λ _.
      else_test is_syn b t.SYN t.STX stx _ (differ t 1 4 refl refl) (λ _.
      else_test is_syn b t.SYN t.ETX etx _ (differ t 2 4 refl refl) (λ _.
      else_test is_syn b t.SYN t.DLE dle _ (differ t 3 4 refl refl) (λ _.
      else_test is_syn b t.SYN t.SYN syn _ (eq-eqb t.SYN t.SYN refl) (λ e.
      else_test is_syn b t.SYN t.ETB etb _ (differ_back t 4 5 refl refl) (λ _.
      else_test is_syn b t.SYN t.US us _ (differ_back t 4 6 refl refl) (λ _. e)))))))

  pub dle_test : eqb b t.DLE ≡ is_dle (sign_of t b)
  unfolding sign_of
  dle_test =
      else_test is_dle b t.DLE t.SOH soh _ (differ t 0 3 refl refl) (λ _.
      else_test is_dle b t.DLE t.STX stx _ (differ t 1 3 refl refl) (λ _.
      else_test is_dle b t.DLE t.ETX etx _ (differ t 2 3 refl refl) (λ _.
      else_test is_dle b t.DLE t.DLE dle _ (eq-eqb t.DLE t.DLE refl) (λ e.
      else_test is_dle b t.DLE t.SYN syn _ (differ_back t 3 4 refl refl) (λ _.
      else_test is_dle b t.DLE t.ETB etb _ (differ_back t 3 5 refl refl) (λ _.
      else_test is_dle b t.DLE t.US us _ (differ_back t 3 6 refl refl) (λ _. e)))))))
