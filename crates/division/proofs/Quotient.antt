-- `remainder` is the remainder of division: bits = quotient · divisor + remainder, and no other strings are. Assumes nothing.
use mathlib.Core.Path.{◌≡◌, refl, sym, ap, ap₂, ◌∙◌}
use Prim.Native.Nat.{ℕ, suc, ◌+◌, ◌<◌}
use native.Mathlib.Omega.{arith}
use mathlib.Core.Bool.{Bool, true, false, xor}
use mathlib.Core.List.{List, [], ◌∷◌, ◌++◌, append_assoc, append-nil, head-eq_of_cons-eq, tail-eq_of_cons-eq}
use lib.ListN.{length, length-append, length-replicate}
use Rattle.bits.specs.Strings.{xor_bits, zeros}
use Rattle.bits.proofs.Strings.{zeros_snoc, length-zeros, length-xor, xor-false, xor_bits_comm, xor_bits_assoc, xor_bits_cancel, xor_bits-zeros, xor_bits_self, xor_bits-append}
use Rattle.division.specs.Division.{step, divide, remainder, Divides, power, scale, times, Divided}
use Rattle.division.specs.Laws.{DivisionLaw, DivisionIsUnique}
use Rattle.division.proofs.Linear.{length-step, length-remainder, remainder-append, remainder-xor}
use Rattle.division.proofs.Zeros.{divide-zeros, divides_zeros, leading, remainder-full}

-- ---- times

length-scale : (t : Bool) (a : List Bool) → length (scale t a) ≡ length a
length-scale true a = refl
length-scale false a = length-zeros (length a)

-- the place of the first factor's leading term, and the rest of the product
length_lead : (t : Bool) (q p : List Bool) → length (scale t (true ∷ p) ++ zeros (length q)) ≡ suc (length q + length p)
length_lead t q p = simp (length-append, length-scale, length-replicate) (omega arith)

pub length-times : (q p : List Bool) → length (times q (true ∷ p)) ≡ length q + length p
length-times [] p = omega (arith, length-zeros (length p))
length-times (t ∷ q) p =
    length-xor (scale t (true ∷ p) ++ zeros (length q)) (false ∷ times q (true ∷ p)) (omega (arith, length_lead t q p, length-times q p))
    ∙ omega (arith, length-times q p)

-- ---- the law

-- what a step took off the register, put back
step_back : (p : List Bool) (t : Bool) (r : List Bool) (b : Bool) → suc (length r) ≡ length p → xor_bits (scale t p) (step p (t ∷ r) b) ≡ r ++ b ∷ []
step_back p true r b h = xor_bits_cancel p (r ++ b ∷ []) (simp length-append (omega arith))
step_back p false r b h = xor_bits-zeros (length p) (r ++ b ∷ []) (simp length-append (omega arith))

abbrev From : List Bool → List Bool → List Bool → Type 0
From p r a = (q : List Bool) × (length q ≡ length a) × (r ++ a ≡ xor_bits (times q (true ∷ p)) (zeros (length a) ++ divide p r a))

lead : (t : Bool) (p z x : List Bool) → xor_bits (scale t (true ∷ p) ++ z) (false ∷ x) ≡ t ∷ xor_bits (scale t p ++ z) x
unfolding xor
lead true p z x = refl
lead false p z x = refl

from : (p r a : List Bool) → 0 < length p → length r ≡ length p → From p r a
unfolding divide
from p r [] w h = ([], refl, append-nil r ∙ sym (xor_bits-zeros (length p) r h))
from p [] (b ∷ a) w h = absurd (omega arith)
from p (t ∷ r) (b ∷ a) w h = go (from p (step p (t ∷ r) b) a w (length-step p (t ∷ r) b h))
  where
    go : From p (step p (t ∷ r) b) a → From p (t ∷ r) (b ∷ a)
    go (q, l, e) = (
      t ∷ q,
      ap suc l,
      sym
          (ap (λ z. xor_bits z (false ∷ (zeros (length a) ++ divide p (step p (t ∷ r) b) a))) (lead t p (zeros (length q)) (times q (true ∷ p)))
          ∙ ap₂ (λ h z. h ∷ z) (xor-false t)
          (xor_bits_assoc (scale t p ++ zeros (length q)) (times q (true ∷ p)) (zeros (length a) ++ divide p (step p (t ∷ r) b) a)
          ∙ ap (xor_bits (scale t p ++ zeros (length q))) (sym e)
          ∙ xor_bits-append (scale t p) (step p (t ∷ r) b) (zeros (length q)) a (length-scale t p ∙ sym (length-step p (t ∷ r) b h))
          ∙ ap₂ ◌++◌ (step_back p t r b h) (xor_bits-zeros (length q) a (sym l))
          ∙ append_assoc r (b ∷ []) a)),
    )

pub division : DivisionLaw
unfolding remainder
division p a w =
    let d = from p (zeros (length p)) a w (length-zeros (length p)) in
    (d.0, record { quotient_length = d.1; remainder-length = length-remainder p a; equation = d.2 })

-- ---- uniqueness of the remainder: a multiple of the divisor leaves none

-- x^w leaves p
pub power-width : (p : List Bool) → power p (length p) ≡ p
unfolding power remainder divide
power-width [] = refl
power-width (x ∷ p) =
    ap (λ z. remainder (x ∷ p) (true ∷ z)) (sym (zeros_snoc (length p)))
    ∙ remainder-append (x ∷ p) (true ∷ zeros (length p)) (false ∷ [])
    ∙ ap (λ z. step (x ∷ p) z false) (remainder-full (x ∷ p) (true ∷ zeros (length p)) (ap suc (length-zeros (length p))))
    ∙ ap (xor_bits (x ∷ p)) (zeros_snoc (length p)) ∙ xor_bits_comm (x ∷ p) (zeros (suc (length p))) ∙ xor_bits-zeros (suc (length p)) (x ∷ p) refl

-- a leading one is a power of x
pub remainder_lead : (p a : List Bool) → remainder p (true ∷ a) ≡ xor_bits (power p (length a)) (remainder p a)
unfolding power xor
remainder_lead p a =
    ap (λ z. remainder p (true ∷ z)) (sym (xor_bits-zeros (length a) a refl))
    ∙ remainder-xor p (true ∷ zeros (length a)) (false ∷ a) (ap suc (length-zeros (length a)))
    ∙ ap (xor_bits (power p (length a))) (leading p 1 a)

divides_self : (p : List Bool) → Divides p (true ∷ p)
divides_self p = remainder_lead p p ∙ ap₂ xor_bits (power-width p) (remainder-full p p refl) ∙ xor_bits_self p

divides_scaled : (p : List Bool) (t : Bool) (n : ℕ) → Divides p (scale t (true ∷ p) ++ zeros n)
divides_scaled p true n = remainder-append p (true ∷ p) (zeros n) ∙ ap (λ z. divide p z (zeros n)) (divides_self p) ∙ divide-zeros p (length p) n
divides_scaled p false n = leading p (suc (length p)) (zeros n) ∙ divides_zeros p n

pub divides_times : (q p : List Bool) → Divides p (times q (true ∷ p))
divides_times [] p = divides_zeros p (length p)
divides_times (t ∷ q) p =
    remainder-xor p (scale t (true ∷ p) ++ zeros (length q)) (false ∷ times q (true ∷ p)) (omega (arith, length_lead t q p, length-times q p))
    ∙ ap₂ xor_bits (divides_scaled p t (length q)) (leading p 1 (times q (true ∷ p)) ∙ divides_times q p)
    ∙ xor_bits-zeros (length p) (zeros (length p)) (length-zeros (length p))

pub unique_remainder : (p a q r : List Bool) → Divided p a q r → r ≡ remainder p a
unique_remainder p a q r d = sym
    (sym (leading p (length p) a) ∙ ap (remainder p) d.equation
    ∙ remainder-xor p (times q (true ∷ p)) (zeros (length a) ++ r)
    (simp (length-append, length-replicate) (omega (arith, length-times q p, d.quotient_length, d.remainder-length)))
    ∙ ap₂ xor_bits (divides_times q p) (leading p (length a) r ∙ remainder-full p r d.remainder-length)
    ∙ xor_bits-zeros (length p) r d.remainder-length)

-- ---- uniqueness of the quotient: the leading term of a product is that of the first factor

times_injective : (p q q' : List Bool) → length q ≡ length q' → times q (true ∷ p) ≡ times q' (true ∷ p) → q ≡ q'
times_injective p [] [] h e = refl
times_injective p [] (t' ∷ q') h e = absurd (omega arith)
times_injective p (t ∷ q) [] h e = absurd (omega arith)
times_injective p (t ∷ q) (t' ∷ q') h e =
    let n : length q ≡ length q' = omega arith in
    let s = scale t p ++ zeros (length q) in
    let m = times q (true ∷ p) in
    let m' = times q' (true ∷ p) in
    let f : t ∷ xor_bits s m ≡ t' ∷ xor_bits (scale t' p ++ zeros (length q')) m' =
    sym (lead t p (zeros (length q)) m) ∙ e ∙ lead t' p (zeros (length q')) m' in
    let g : t ≡ t' = head-eq_of_cons-eq f in
    let c : xor_bits s m ≡ xor_bits s m' = tail-eq_of_cons-eq f ∙ ap₂ (λ u k. xor_bits (scale u p ++ zeros k) m') (sym g) (sym n) in
    let l : length s ≡ length q + length p = simp (length-append, length-scale, length-replicate) (omega arith) in
    let w : m ≡ m' =
    sym (xor_bits_cancel s m (length-times q p ∙ sym l)) ∙ ap (xor_bits s) c ∙ xor_bits_cancel s m' (omega (arith, length-times q' p)) in
    ap₂ (λ u v. u ∷ v) g (times_injective p q q' n w)

pub unique : DivisionIsUnique
unique p a q r q' r' d d' =
    let e : r ≡ r' = unique_remainder p a q r d ∙ sym (unique_remainder p a q' r' d') in
    let z = zeros (length a) ++ r in
    let m = times q (true ∷ p) in
    let m' = times q' (true ∷ p) in
    let l : length z ≡ length a + length p = simp (length-append, length-replicate) (omega (arith, d.remainder-length)) in
    let f : xor_bits z m ≡ xor_bits z m' =
    xor_bits_comm z m ∙ sym d.equation ∙ d'.equation ∙ ap (λ v. xor_bits m' (zeros (length a) ++ v)) (sym e) ∙ xor_bits_comm m' z in
    let g : m ≡ m' =
    sym (xor_bits_cancel z m (omega (arith, length-times q p, d.quotient_length)))
    ∙ ap (xor_bits z) f ∙ xor_bits_cancel z m' (omega (arith, length-times q' p, d'.quotient_length)) in
    (times_injective p q q' (d.quotient_length ∙ sym d'.quotient_length) g, e)
