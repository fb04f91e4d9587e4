-- The multiples of the generators that have few powers: certificates, computed. Assumes nothing.
use mathlib.Core.Path.{◌≡◌, sym, ap, ◌∙◌}
use Prim.Native.Nat.{ℕ, ◌+◌, ◌≤◌}
use native.Mathlib.Omega.{arith}
use mathlib.Core.Bool.{Bool, true, xor}
use mathlib.Core.List.{List, [], ◌∷◌}
use lib.Dec.{T}
use lib.ListN.{length}
use Rattle.bits.specs.Strings.{same, zeros}
use Rattle.bits.specs.Differences.{Each}
use Rattle.bits.proofs.Strings.{same_sound}
use Rattle.division.specs.Generators.{ccitt16, ibm16, ieee32}
use Rattle.division.proofs.Generators.{ccitt16_generator, ibm16_generator, ieee32_generator}
use Rattle.registers.specs.Register.{enter, entered}
use Rattle.folding.specs.Fold.{ccitt_powers, ibm_powers, ieee_powers}
use Rattle.folding.proofs.Fold.{Powers, sums}

-- modulo the generator p of w bits, x^n is the sum of the powers es, each of them a word or more below
pub record Multiple (w : ℕ) (p : List Bool) (n : ℕ) (es : List ℕ) : Type 0 where
  pub width : length p ≡ w
  pub one : Powers p n es (true ∷ [])
  pub far : Each (λ e. e + 64 ≤ n) es

-- the sum as a test
unfoldable is_sum : ℕ → List Bool → ℕ → List ℕ → Bool
is_sum w p n es = same (entered p (true ∷ zeros n)) (sums w (λ e. entered p (true ∷ zeros e)) es)

tested : (w : ℕ) (p : List Bool) (n : ℕ) (es : List ℕ) → length p ≡ w → T (is_sum w p n es) → Powers p n es (true ∷ [])
unfolding is_sum
tested w p n es wide t =
    same_sound (entered p (true ∷ zeros n)) (sums w (λ e. entered p (true ∷ zeros e)) es) t
    ∙ ap (λ k. sums k (λ e. entered p (true ∷ zeros e)) es) (sym wide)

ccitt_sum : T (is_sum 16 ccitt16 256 ccitt_powers)
unfolding is_sum ccitt16 enter xor
ccitt_sum = tt

pub ccitt_multiple : Multiple 16 ccitt16 256 ccitt_powers
ccitt_multiple =
    let wide = ccitt16_generator.width in
    record { width = wide; one = tested 16 ccitt16 256 ccitt_powers wide ccitt_sum; far = (omega arith, (omega arith, (omega arith, tt))) }

ibm_sum : T (is_sum 16 ibm16 192 ibm_powers)
unfolding is_sum ibm16 enter xor
ibm_sum = tt

pub ibm_multiple : Multiple 16 ibm16 192 ibm_powers
ibm_multiple =
    let wide = ibm16_generator.width in
    record {
      width = wide;
      one = tested 16 ibm16 192 ibm_powers wide ibm_sum;
      far = (omega arith, (omega arith, (omega arith, (omega arith, (omega arith, tt)))));
    }

ieee_sum : T (is_sum 32 ieee32 320 ieee_powers)
unfolding is_sum ieee32 enter xor
ieee_sum = tt

pub ieee_multiple : Multiple 32 ieee32 320 ieee_powers
ieee_multiple =
    let wide = ieee32_generator.width in
    record {
      width = wide;
      one = tested 32 ieee32 320 ieee_powers wide ieee_sum;
      far = (omega arith, (omega arith, (omega arith, (omega arith, tt))));
    }
