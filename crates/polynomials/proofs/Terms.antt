-- The loop over the terms of a product: what is left to add gives the whole. Assumes nothing.
use mathlib.Core.Path.{◌≡◌, refl, sym, ap, ap₂, ◌∙◌}
use Prim.Native.Nat.{ℕ, zero, suc, ◌+◌, ◌<◌, ◌≤◌}
use native.Mathlib.Omega.{arith}
use native.Mathlib.Numerals.{add-one}
use mathlib.Core.Bool.{Bool, false}
use mathlib.Core.List.{List, [], ◌∷◌}
use lib.ListN.{length, get_or, drop}
use lib.Seq.{drop-cons}
use Rattle.bits.specs.Strings.{xor_bits, zeros}
use Rattle.division.specs.Division.{step, scale}
use Rattle.polynomials.specs.Product.{product}
use Rattle.polynomials.proofs.Products.{add_terms, product_by_terms}

-- the coefficients of a from a place on, added to a sum
pub record Adding (p a b sum : List Bool) (place : ℕ) : Type 0 where
  pub within : place ≤ length p
  pub whole : add_terms p sum (drop place a) b ≡ product p a b

all_dropped : (l : List Bool) (n : ℕ) → length l ≤ n → drop n l ≡ []
all_dropped [] zero h = refl
all_dropped [] (suc n) h = refl
all_dropped (x ∷ l) zero h = absurd (omega arith)
all_dropped (x ∷ l) (suc n) h = all_dropped l n (omega arith)

module _ {p a b : List Bool} where
  pub adding_first : {sum : List Bool} → 0 < length p → length b ≡ length p → sum ≡ zeros (length p) → Adding p a b sum 0
  adding_first pos l e =
      record { within = omega arith; whole = ap (λ s. add_terms p s a b) e ∙ product_by_terms p a b pos l }

  pub adding_next : {q sum moved term next : List Bool} {place : ℕ} {set : Bool} → length a ≡ length p → Adding p a b sum place → place < length p
      → q ≡ p → set ≡ get_or a place false → term ≡ scale set b → moved ≡ step q sum false → next ≡ xor_bits moved term
      → Adding p a b next (place + 1)
  unfolding add_terms
  adding_next {sum = sum} {place = place} l h below r e f g i =
      record {
        within = omega arith;
        whole =
            ap₂ (λ s k. add_terms p s (drop k a) b) (i ∙ ap₂ xor_bits (g ∙ ap (λ z. step z sum false) r) (f ∙ ap (λ t. scale t b) e)) (add-one place)
            ∙ ap (λ z. add_terms p sum z b) (sym (drop-cons a place false (omega arith))) ∙ h.whole;
      }

  pub adding_all : {sum : List Bool} {place : ℕ} → length a ≡ length p → Adding p a b sum place → length p ≤ place → sum ≡ product p a b
  unfolding add_terms
  adding_all {sum} {place} l h end = sym (ap (λ z. add_terms p sum z b) (all_dropped a place (omega arith))) ∙ h.whole
