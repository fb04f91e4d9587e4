-- Powers of x by halving the exponent and squaring. Assumes nothing.
use mathlib.Core.Path.{◌≡◌, sym, ap, ◌∙◌}
use Prim.Native.Nat.{ℕ, suc, ◌+◌, ◌-◌, ◌/◌, ◌%◌, ◌<◌}
use native.Mathlib.Omega.{arith}
use mathlib.Core.Bool.{Bool, true, false}
use mathlib.Core.List.{List, ◌∷◌, ◌++◌}
use lib.ListN.{length}
use Rattle.bits.specs.Strings.{zeros}
use Rattle.bits.proofs.Strings.{length-zeros}
use Rattle.division.specs.Division.{step, divide, power}
use Rattle.division.proofs.Zeros.{remainder_short}
use Rattle.division.proofs.Powers.{power-add}
use Rattle.polynomials.specs.Product.{monomial, product}
use Rattle.polynomials.proofs.Products.{square_of_power}
use Rattle.polynomials.proofs.Coefficients.{monomial_below}

module _ (p : List Bool) (n : ℕ) where
  -- below the degree, the power alone
  pub lone_power : {w : ℕ} {r : List Bool} → w ≡ length p → n < w → r ≡ monomial w n → r ≡ power p n
  unfolding power
  lone_power {w} l h e =
      let k : suc (length (zeros n)) ≡ suc n = ap suc (length-zeros n) in
      e ∙ monomial_below w n h ∙ ap (λ v. zeros (v - suc n) ++ true ∷ zeros n) l
      ∙ sym (remainder_short p (true ∷ zeros n) (omega arith) ∙ ap (λ v. zeros (length p - v) ++ true ∷ zeros n) k)

  -- from x to half of n
  module _ {root square : List Bool} (pos : 0 < length p) (half : root ≡ power p (n / 2)) (squared : square ≡ product p root root) where
    doubled : square ≡ power p (n / 2 + n / 2)
    doubled = squared ∙ ap (λ z. product p z z) half ∙ square_of_power p (n / 2) pos

    pub even_power : (n % 2 ≡ 1 → ⊥) → square ≡ power p n
    even_power even = doubled ∙ ap (power p) {x = n / 2 + n / 2} {y = n} (omega arith)

    pub odd_power : {r : List Bool} → n % 2 ≡ 1 → r ≡ step p square false → r ≡ power p n
    unfolding divide
    odd_power odd e =
        e ∙ ap (λ z. step p z false) doubled ∙ sym (power-add p (n / 2 + n / 2) 1) ∙ ap (power p) {x = n / 2 + n / 2 + 1} {y = n} (omega arith)
