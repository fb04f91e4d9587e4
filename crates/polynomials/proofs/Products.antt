-- The product modulo the divisor: from the highest coefficient down, and with powers of x. Assumes nothing.
use mathlib.Core.Path.{◌≡◌, refl, sym, ap, ap₂, ◌∙◌}
use Prim.Native.Nat.{ℕ, ◌+◌, ◌<◌}
use native.Mathlib.Omega.{arith}
use mathlib.Core.Bool.{Bool, true, false}
use mathlib.Core.List.{List, [], ◌∷◌, ◌++◌}
use lib.ListN.{length, length-append, length-replicate}
use Rattle.bits.specs.Strings.{xor_bits, zeros}
use Rattle.bits.proofs.Strings.{length-zeros, zeros-append, length-xor, xor_bits_comm, xor_bits_assoc, xor_bits-zeros, xor-false, false-xor}
use Rattle.division.specs.Division.{step, divide, remainder, power, scale, times}
use Rattle.division.proofs.Linear.{length-step, divide_linear, length-remainder, remainder-append, remainder-xor}
use Rattle.division.proofs.Zeros.{divide-zeros, divides_zeros, leading, remainder-full}
use Rattle.division.proofs.Powers.{power-add}
use Rattle.polynomials.specs.Product.{product}
use Rattle.polynomials.specs.Laws.{ProductWithPower, SquareOfPower}

-- ---- times

pub length-scale : (t : Bool) (b : List Bool) → length (scale t b) ≡ length b
length-scale true b = refl
length-scale false b = length-zeros (length b)

length_lead : (t : Bool) (a b : List Bool) → length (scale t b ++ zeros (length a)) ≡ length a + length b
length_lead t a b = simp (length-append, length-scale, length-replicate) (omega arith)

pub length-times : (a : List Bool) (x : Bool) (b : List Bool) → length (times a (x ∷ b)) ≡ length a + length b
length-times [] x b = omega (arith, length-zeros (length b))
length-times (t ∷ a) x b =
    length-xor (scale t (x ∷ b) ++ zeros (length a)) (false ∷ times a (x ∷ b)) (omega (arith, length_lead t a (x ∷ b), length-times a x b))
    ∙ omega (arith, length-times a x b)

-- a · x^n is a with n zeros behind it
times-power : (a : List Bool) (n : ℕ) → times a (true ∷ zeros n) ≡ a ++ zeros n
times-power [] n = ap zeros (length-zeros n)
times-power (t ∷ a) n =
    let k = length a in
    let e : zeros (length (zeros n)) ++ zeros k ≡ zeros (n + k) = ap (λ j. zeros j ++ zeros k) (length-zeros n) ∙ zeros-append n k in
    let l : length (a ++ zeros n) ≡ n + k = simp (length-append, length-replicate) (omega arith) in
    ap (λ z. xor_bits (scale t (true ∷ zeros n) ++ zeros k) (false ∷ z)) (times-power a n) ∙ go t e l
  where
    go : (s : Bool) → zeros (length (zeros n)) ++ zeros (length a) ≡ zeros (n + length a) → length (a ++ zeros n) ≡ n + length a
        → xor_bits (scale s (true ∷ zeros n) ++ zeros (length a)) (false ∷ (a ++ zeros n)) ≡ s ∷ (a ++ zeros n)
    go true e l =
        ap₂ (λ h z. h ∷ xor_bits z (a ++ zeros n)) (xor-false true) (zeros-append n (length a))
        ∙ ap (λ z. true ∷ z) (xor_bits-zeros (n + length a) (a ++ zeros n) l)
    go false e l =
        ap₂ (λ h z. h ∷ xor_bits z (a ++ zeros n)) (false-xor false) e ∙ ap (λ z. false ∷ z) (xor_bits-zeros (n + length a) (a ++ zeros n) l)

-- the leading term of the first factor apart
remainder-times : (p : List Bool) (t : Bool) (a : List Bool) (x : Bool) (b : List Bool)
    → remainder p (times (t ∷ a) (x ∷ b)) ≡ xor_bits (divide p (remainder p (scale t (x ∷ b))) (zeros (length a))) (remainder p (times a (x ∷ b)))
remainder-times p t a x b =
    remainder-xor p (scale t (x ∷ b) ++ zeros (length a)) (false ∷ times a (x ∷ b)) (omega (arith, length_lead t a (x ∷ b), length-times a x b))
    ∙ ap₂ xor_bits (remainder-append p (scale t (x ∷ b)) (zeros (length a))) (leading p 1 (times a (x ∷ b)))

-- ---- the second factor may be divided first

product-remainder : (p a : List Bool) (x : Bool) (b : List Bool) → 0 < length p → product p a (remainder p (x ∷ b)) ≡ product p a (x ∷ b)
unfolding product
product-remainder p a x b pos = go a (remainder p (x ∷ b)) (remainder-full p (remainder p (x ∷ b)) (length-remainder p (x ∷ b))) (length-remainder p (x ∷ b))
  where
    go : (a r : List Bool) → remainder p r ≡ remainder p (x ∷ b) → length r ≡ length p → remainder p (times a r) ≡ remainder p (times a (x ∷ b))
    go a [] e l = absurd (omega arith)
    go [] (y ∷ r) e l = divides_zeros p (length r) ∙ sym (divides_zeros p (length b))
    go (t ∷ a) (y ∷ r) e l =
        remainder-times p t a y r
        ∙ ap₂ (λ u v. xor_bits (divide p u (zeros (length a))) v) (lead t) (go a (y ∷ r) e l)
        ∙ sym (remainder-times p t a x b)
      where
        lead : (t : Bool) → remainder p (scale t (y ∷ r)) ≡ remainder p (scale t (x ∷ b))
        lead true = e
        lead false = divides_zeros p (length (y ∷ r)) ∙ sym (divides_zeros p (length (x ∷ b)))

-- ---- powers of x

length-power : (p : List Bool) (n : ℕ) → length (power p n) ≡ length p
unfolding power
length-power p n = length-remainder p (true ∷ zeros n)

pub product_with_power : ProductWithPower
unfolding product power
product_with_power p a n pos = product-remainder p a true (zeros n) pos ∙ ap (remainder p) (times-power a n)

pub square_of_power : SquareOfPower
square_of_power p n pos =
    product_with_power p (power p n) n pos ∙ remainder-append p (power p n) (zeros n)
    ∙ ap (λ z. divide p z (zeros n)) (remainder-full p (power p n) (length-power p n)) ∙ sym (power-add p n n)

-- ---- from the highest coefficient down: the sum so far moves up a power, and b is added where the coefficient is set

unfoldable pub add_terms : List Bool → List Bool → List Bool → List Bool → List Bool
add_terms p sum [] b = sum
add_terms p sum (t ∷ a) b = add_terms p (xor_bits (step p sum false) (scale t b)) a b

add_terms-times : (p sum a : List Bool) (x : Bool) (b : List Bool) → length sum ≡ length p → length (x ∷ b) ≡ length p
    → add_terms p sum a (x ∷ b) ≡ xor_bits (divide p sum (zeros (length a))) (remainder p (times a (x ∷ b)))
unfolding add_terms divide
add_terms-times p sum [] x b h k =
    sym (xor_bits_comm sum (remainder p (zeros (length b))) ∙ ap (λ z. xor_bits z sum) (divides_zeros p (length b)) ∙ xor_bits-zeros (length p) sum h)
add_terms-times p sum (t ∷ a) x b h k =
    let z = zeros (length a) in
    let s = step p sum false in
    let y = scale t (x ∷ b) in
    let ls : length s ≡ length p = length-step p sum false h in
    let ly : length y ≡ length p = length-scale t (x ∷ b) ∙ k in
    let r = remainder p (times a (x ∷ b)) in
    add_terms-times p (xor_bits s y) a x b (length-xor s y (ls ∙ sym ly) ∙ ly) k
    ∙ ap (λ v. xor_bits v r)
    (ap (divide p (xor_bits s y)) (sym (xor_bits-zeros (length a) z (length-zeros (length a)))) ∙ divide_linear p s y z z ls ly refl)
    ∙ xor_bits_assoc (divide p s z) (divide p y z) r
    ∙ ap (λ v. xor_bits (divide p s z) (xor_bits (divide p v z) r)) (sym (remainder-full p y ly))
    ∙ ap (xor_bits (divide p s z)) (sym (remainder-times p t a x b))

pub product_by_terms : (p a b : List Bool) → 0 < length p → length b ≡ length p → add_terms p (zeros (length p)) a b ≡ product p a b
unfolding product
product_by_terms p a [] pos k = absurd (omega arith)
product_by_terms p a (x ∷ b) pos k =
    let r = remainder p (times a (x ∷ b)) in
    add_terms-times p (zeros (length p)) a x b (length-zeros (length p)) k
    ∙ ap (λ z. xor_bits z r) (divide-zeros p (length p) (length a)) ∙ xor_bits-zeros (length p) r (length-remainder p (times a (x ∷ b)))
