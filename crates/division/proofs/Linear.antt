-- Division is linear, and goes on from the register that a first part left. Assumes nothing.
use mathlib.Core.Path.{◌≡◌, refl, sym, ap, ◌∙◌}
use native.Mathlib.Omega.{arith}
use mathlib.Core.Bool.{Bool, true, false, xor}
use mathlib.Core.List.{List, [], ◌∷◌, ◌++◌}
use lib.ListN.{length, length-append}
use Rattle.bits.specs.Strings.{xor_bits, zeros}
use Rattle.bits.proofs.Strings.{length-zeros, length-xor, xor_bits-nil, xor_bits-append, xor_bits_assoc, xor_bits_left_comm, xor_bits_cancel, xor_bits-zeros}
use Rattle.division.specs.Division.{step, divide, remainder}
use Rattle.division.specs.Laws.{RemainderIsLinear}

-- ---- step

pub length-step : (p r : List Bool) (b : Bool) → length r ≡ length p → length (step p r b) ≡ length p
length-step p [] b h = h
length-step p (true ∷ r) b h = length-xor p (r ++ b ∷ []) (omega (arith, length-append r (b ∷ []))) ∙ omega (arith, length-append r (b ∷ []))
length-step p (false ∷ r) b h = omega (arith, length-append r (b ∷ []))

pub step_linear : (p r s : List Bool) (b c : Bool) → length r ≡ length p → length s ≡ length p → step p (xor_bits r s) (xor b c) ≡ xor_bits (step p r b) (step p s c)
unfolding xor
step_linear p [] s b c h k = refl
step_linear p (t ∷ r) [] b c h k = sym (xor_bits-nil (step p (t ∷ r) b))
step_linear p (false ∷ r) (false ∷ s) b c h k = sym (xor_bits-append r s (b ∷ []) (c ∷ []) (omega arith))
step_linear p (true ∷ r) (false ∷ s) b c h k =
    rw (← xor_bits-append r s (b ∷ []) (c ∷ []) (omega arith), ← xor_bits_assoc p (r ++ b ∷ []) (s ++ c ∷ []))
step_linear p (false ∷ r) (true ∷ s) b c h k =
    rw (← xor_bits-append r s (b ∷ []) (c ∷ []) (omega arith)) (xor_bits_left_comm p (r ++ b ∷ []) (s ++ c ∷ []))
step_linear p (true ∷ r) (true ∷ s) b c h k =
    rw (← xor_bits-append r s (b ∷ []) (c ∷ []) (omega arith), xor_bits_assoc p (r ++ b ∷ []) (xor_bits p (s ++ c ∷ [])), xor_bits_left_comm (r ++ b ∷ []) p (s ++ c ∷ []))
    (sym (xor_bits_cancel p (xor_bits (r ++ b ∷ []) (s ++ c ∷ [])) (length-xor (r ++ b ∷ []) (s ++ c ∷ []) (simp length-append (omega arith)) ∙ simp length-append (omega arith))))

-- ---- divide

pub length-divide : (p r a : List Bool) → length r ≡ length p → length (divide p r a) ≡ length p
unfolding divide
length-divide p r [] h = h
length-divide p r (x ∷ a) h = length-divide p (step p r x) a (length-step p r x h)

pub divide-append : (p r a b : List Bool) → divide p r (a ++ b) ≡ divide p (divide p r a) b
unfolding divide
divide-append p r [] b = refl
divide-append p r (x ∷ a) b = divide-append p (step p r x) a b

pub divide_linear : (p r s a b : List Bool) → length r ≡ length p → length s ≡ length p → length a ≡ length b
    → divide p (xor_bits r s) (xor_bits a b) ≡ xor_bits (divide p r a) (divide p s b)
unfolding divide
divide_linear p r s [] [] h k l = refl
divide_linear p r s [] (y ∷ b) h k l = absurd (omega arith)
divide_linear p r s (x ∷ a) [] h k l = absurd (omega arith)
divide_linear p r s (x ∷ a) (y ∷ b) h k l =
    ap (λ z. divide p z (xor_bits a b)) (step_linear p r s x y h k)
    ∙ divide_linear p (step p r x) (step p s y) a b (length-step p r x h) (length-step p s y k) (omega arith)

-- ---- remainder

pub length-remainder : (p a : List Bool) → length (remainder p a) ≡ length p
unfolding remainder
length-remainder p a = length-divide p (zeros (length p)) a (length-zeros (length p))

pub remainder-append : (p a b : List Bool) → remainder p (a ++ b) ≡ divide p (remainder p a) b
unfolding remainder
remainder-append p a b = divide-append p (zeros (length p)) a b

pub remainder-xor : RemainderIsLinear
unfolding remainder
remainder-xor p a b l =
    let z = zeros (length p) in
    ap (λ r. divide p r (xor_bits a b)) (sym (xor_bits-zeros (length p) z (length-zeros (length p))))
    ∙ divide_linear p z z a b (length-zeros (length p)) (length-zeros (length p)) l
