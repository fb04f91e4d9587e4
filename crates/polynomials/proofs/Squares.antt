-- The square of a polynomial has its coefficients at the even powers: of two terms that differ both products are there, and gone from
-- the sum. Assumes nothing.
use mathlib.Core.Path.{◌≡◌, refl, sym, ap, ap₂, ◌∙◌}
use Prim.Native.Nat.{suc, ◌+◌}
use native.Mathlib.Omega.{arith}
use mathlib.Core.Bool.{Bool, true, false}
use mathlib.Core.List.{List, [], ◌∷◌, ◌++◌}
use lib.ListN.{length, length-append, length-replicate}
use Rattle.bits.specs.Strings.{xor_bits, zeros}
use Rattle.bits.proofs.Strings.{length-zeros, xor_bits_left_comm, xor_bits_cancel, xor_bits-zeros, xor-false}
use Rattle.division.specs.Division.{remainder, scale, times}
use Rattle.division.proofs.Zeros.{leading}
use Rattle.polynomials.specs.Product.{product, spread}
use Rattle.polynomials.specs.Laws.{SquareSpread}
use Rattle.polynomials.proofs.Products.{length-scale, length-times}

-- ---- the second factor's leading term apart

-- the product of two coefficients
abbrev scale_bit : Bool → Bool → Bool
scale_bit true u = u
scale_bit false u = false

swap : (t u : Bool) → scale_bit t u ≡ scale_bit u t
swap true true = refl
swap true false = refl
swap false true = refl
swap false false = refl

self : (t : Bool) → scale_bit t t ≡ t
self true = refl
self false = refl

-- what stands behind the leading term of a scaled string
lead_apart : (t u : Bool) (b y z : List Bool) → xor_bits (scale t (u ∷ b) ++ y) (false ∷ z) ≡ scale_bit t u ∷ xor_bits (scale t b ++ y) z
lead_apart true u b y z = ap (λ x. x ∷ xor_bits (b ++ y) z) (xor-false u)
lead_apart false u b y z = ap (λ x. x ∷ xor_bits (zeros (length b) ++ y) z) (xor-false false)

times-lead : (a : List Bool) (u : Bool) (b : List Bool) → times a (u ∷ b) ≡ xor_bits (scale u a ++ zeros (length b)) (false ∷ times a b)
times-lead [] true [] = refl
times-lead [] false [] = refl
times-lead [] true (v ∷ b) = sym (xor_bits-zeros (suc (length b)) (zeros (suc (length b))) (length-zeros (suc (length b))))
times-lead [] false (v ∷ b) = sym (xor_bits-zeros (suc (length b)) (zeros (suc (length b))) (length-zeros (suc (length b))))
times-lead (t ∷ a) u b =
    let x = scale t b ++ zeros (length a) in
    let y = scale u a ++ zeros (length b) in
    let z = false ∷ times a b in
    lead_apart t u b (zeros (length a)) (times a (u ∷ b))
    ∙ ap₂ (λ h r. h ∷ r) (swap t u) (ap (xor_bits x) (times-lead a u b) ∙ xor_bits_left_comm x y z)
    ∙ sym (lead_apart u t a (zeros (length b)) (times (t ∷ a) b))

-- ---- the square

-- all but the leading zero of the spread string
times_self : (t : Bool) (a : List Bool) → times (t ∷ a) (t ∷ a) ≡ t ∷ spread a
unfolding spread
times_self true [] = lead_apart true true [] [] []
times_self false [] = lead_apart false false [] [] []
times_self t (u ∷ a) =
    let x = scale t (u ∷ a) ++ zeros (length (u ∷ a)) in
    let r = times (u ∷ a) (u ∷ a) in
    let lx : length x ≡ suc (length a) + suc (length a) = simp (length-append, length-scale, length-replicate) refl in
    let lr : length (false ∷ r) ≡ length x = ap suc (length-times (u ∷ a) u a) ∙ omega (arith, lx) in
    lead_apart t t (u ∷ a) (zeros (length (u ∷ a))) (times (u ∷ a) (t ∷ u ∷ a))
    ∙ ap₂ (λ h z. h ∷ xor_bits x z) (self t) (times-lead (u ∷ a) t (u ∷ a))
    ∙ ap (λ z. t ∷ z) (xor_bits_cancel x (false ∷ r) lr)
    ∙ ap (λ z. t ∷ false ∷ z) (times_self u a)

pub square_spread : SquareSpread
unfolding product spread
square_spread p [] = refl
square_spread p (t ∷ a) = ap (remainder p) (times_self t a) ∙ sym (leading p 1 (t ∷ spread a))
