-- A register that bits enter at its high end holds the remainder of x^w · C + x^k · L. Assumes nothing.
use mathlib.Core.Path.{◌≡◌, refl, sym, ap, ap₂, ◌∙◌}
use Prim.Native.Nat.{ℕ, zero, suc, ◌<◌}
use native.Mathlib.Omega.{arith}
use mathlib.Core.Bool.{Bool, true, false, xor}
use mathlib.Core.List.{List, [], ◌∷◌, ◌++◌, append_assoc}
use lib.ListN.{length, length-append, length-replicate}
use Rattle.bits.specs.Strings.{xor_bits, zeros}
use Rattle.bits.proofs.Strings.{false-xor, xor-false, xor_assoc, xor_left_comm, zeros_snoc, length-zeros, xor_bits_comm, xor_bits-zeros, xor_bits_cancel}
use Rattle.division.specs.Division.{step, divide, remainder, power, scale}
use Rattle.division.proofs.Linear.{length-step, step_linear, length-divide, divide_linear, remainder-append, remainder-xor}
use Rattle.division.proofs.Zeros.{divide-zeros, leading, remainder-full}
use Rattle.division.proofs.Quotient.{power-width}
use Rattle.registers.specs.Register.{enter_bit, enter}
use Rattle.registers.specs.Laws.{EnterIsFormula}

-- ---- enter_bit

pub length-enter_bit : (p r : List Bool) (b : Bool) → length r ≡ length p → length (enter_bit p r b) ≡ length p
length-enter_bit p [] b h = h
length-enter_bit p (t ∷ r) b h = length-step p (xor t b ∷ r) false h

xor_four : (a b c d : Bool) → xor (xor a b) (xor c d) ≡ xor (xor a c) (xor b d)
xor_four a b c d = rw (xor_assoc a b (xor c d), xor_left_comm b c d, xor_assoc a c (xor b d))

enter_bit_linear : (p r s : List Bool) (b c : Bool) → length r ≡ length p → length s ≡ length p
    → enter_bit p (xor_bits r s) (xor b c) ≡ xor_bits (enter_bit p r b) (enter_bit p s c)
unfolding xor
enter_bit_linear p [] [] b c h k = refl
enter_bit_linear p [] (u ∷ s) b c h k = absurd (omega arith)
enter_bit_linear p (t ∷ r) [] b c h k = absurd (omega arith)
enter_bit_linear p (t ∷ r) (u ∷ s) b c h k =
    ap (λ x. step p (x ∷ xor_bits r s) false) (xor_four t u b c) ∙ step_linear p (xor t b ∷ r) (xor u c ∷ s) false false h k

-- a zero enters as in division
enter_bit-zero : (p r : List Bool) → enter_bit p r false ≡ step p r false
enter_bit-zero p [] = refl
enter_bit-zero p (t ∷ r) = ap (λ x. step p (x ∷ r) false) (xor-false t)

-- ---- enter

pub length-enter : (p r c : List Bool) → length r ≡ length p → length (enter p r c) ≡ length p
unfolding enter
length-enter p r [] h = h
length-enter p r (b ∷ c) h = length-enter p (enter_bit p r b) c (length-enter_bit p r b h)

pub enter-append : (p r c d : List Bool) → enter p r (c ++ d) ≡ enter p (enter p r c) d
unfolding enter
enter-append p r [] d = refl
enter-append p r (b ∷ c) d = enter-append p (enter_bit p r b) c d

pub enter_linear : (p r s c d : List Bool) → length r ≡ length p → length s ≡ length p → length c ≡ length d
    → enter p (xor_bits r s) (xor_bits c d) ≡ xor_bits (enter p r c) (enter p s d)
unfolding enter
enter_linear p r s [] [] h k l = refl
enter_linear p r s [] (y ∷ d) h k l = absurd (omega arith)
enter_linear p r s (x ∷ c) [] h k l = absurd (omega arith)
enter_linear p r s (x ∷ c) (y ∷ d) h k l =
    ap (λ z. enter p z (xor_bits c d)) (enter_bit_linear p r s x y h k)
    ∙ enter_linear p (enter_bit p r x) (enter_bit p s y) c d (length-enter_bit p r x h) (length-enter_bit p s y k) (omega arith)

pub enter-zeros : (p r : List Bool) (n : ℕ) → enter p r (zeros n) ≡ divide p r (zeros n)
unfolding enter divide
enter-zeros p r zero = refl
enter-zeros p r (suc n) = ap (λ z. enter p z (zeros n)) (enter_bit-zero p r) ∙ enter-zeros p (step p r false) n

-- ---- a bit that enters at the low end and is then brought up by w zeros is one that enters at the high end

divide_slide : (p r : List Bool) (n : ℕ) → divide p (step p r false) (zeros n) ≡ step p (divide p r (zeros n)) false
unfolding divide
divide_slide p r zero = refl
divide_slide p r (suc n) = divide_slide p (step p r false) n

-- the lowest bit alone, brought up: x^w leaves p
lowest : (p : List Bool) (n : ℕ) (b : Bool) → length p ≡ suc n → divide p (zeros n ++ b ∷ []) (zeros (length p)) ≡ scale b p
unfolding power
lowest p n false h =
    ap (λ z. divide p z (zeros (length p))) (zeros_snoc n ∙ ap zeros (sym h)) ∙ divide-zeros p (length p) (length p)
lowest p n true h =
    ap (λ z. divide p z (zeros (length p))) (sym (remainder-full p (zeros n ++ true ∷ []) (simp (length-append, length-replicate) (omega arith))))
    ∙ sym (remainder-append p (zeros n ++ true ∷ []) (zeros (length p)))
    ∙ ap (remainder p) (append_assoc (zeros n) (true ∷ []) (zeros (length p)))
    ∙ leading p n (true ∷ zeros (length p)) ∙ power-width p

enter_bit-scale : (p r : List Bool) (b : Bool) → length r ≡ length p → enter_bit p r b ≡ xor_bits (step p r false) (scale b p)
unfolding xor
enter_bit-scale p [] b h = refl
enter_bit-scale p (t ∷ r) false h =
    let e = step p (t ∷ r) false in
    enter_bit-zero p (t ∷ r) ∙ sym (xor_bits_comm e (zeros (length p)) ∙ xor_bits-zeros (length p) e (length-step p (t ∷ r) false h))
enter_bit-scale p (false ∷ r) true h = xor_bits_comm p (r ++ false ∷ [])
enter_bit-scale p (true ∷ r) true h =
    sym (xor_bits_comm (xor_bits p (r ++ false ∷ [])) p ∙ xor_bits_cancel p (r ++ false ∷ []) (simp length-append (omega arith)))

brought_up : (p r : List Bool) (b : Bool) → 0 < length p → length r ≡ length p
    → divide p (step p r b) (zeros (length p)) ≡ enter_bit p (divide p r (zeros (length p))) b
brought_up [] r b w h = absurd (omega arith)
brought_up (x ∷ p') r b w h =
    let p = x ∷ p' in
    let n = length p' in
    let z = zeros (length p) in
    let lz = length-zeros (length p) in
    ap (λ y. divide p y z)
    (ap₂ (step p) (sym (xor_bits_comm r z ∙ xor_bits-zeros (length p) r h)) (sym (false-xor b)) ∙ step_linear p r z false b h lz)
    ∙ ap (divide p (xor_bits (step p r false) (step p z b))) (sym (xor_bits-zeros (length p) z lz))
    ∙ divide_linear p (step p r false) (step p z b) z z (length-step p r false h) (length-step p z b lz) refl
    ∙ ap₂ xor_bits (divide_slide p r (length p)) (lowest p n b refl)
    ∙ sym (enter_bit-scale p (divide p r z) b (length-divide p r z h))

all_brought_up : (p r c : List Bool) → 0 < length p → length r ≡ length p
    → enter p (divide p r (zeros (length p))) c ≡ divide p r (c ++ zeros (length p))
unfolding enter divide
all_brought_up p r [] w h = refl
all_brought_up p r (b ∷ c) w h =
    ap (λ z. enter p z c) (sym (brought_up p r b w h)) ∙ all_brought_up p (step p r b) c w (length-step p r b h)

-- ---- the formula

enter_from_zeros : (p c : List Bool) → 0 < length p → enter p (zeros (length p)) c ≡ remainder p (c ++ zeros (length p))
unfolding remainder
enter_from_zeros p c w =
    ap (λ z. enter p z c) (sym (divide-zeros p (length p) (length p))) ∙ all_brought_up p (zeros (length p)) c w (length-zeros (length p))

enter_only_zeros : (p r : List Bool) (k : ℕ) → length r ≡ length p → enter p r (zeros k) ≡ remainder p (r ++ zeros k)
enter_only_zeros p r k h =
    enter-zeros p r k ∙ ap (λ z. divide p z (zeros k)) (sym (remainder-full p r h)) ∙ sym (remainder-append p r (zeros k))

enter-formula : (p r c : List Bool) → 0 < length p → length r ≡ length p
    → enter p r c ≡ remainder p (xor_bits (c ++ zeros (length p)) (r ++ zeros (length c)))
enter-formula p r c w h =
    let k = length c in
    let z = zeros (length p) in
    ap₂ (enter p) (sym (xor_bits-zeros (length p) r h)) (sym (xor_bits_comm c (zeros k) ∙ xor_bits-zeros k c refl))
    ∙ enter_linear p z r c (zeros k) (length-zeros (length p)) h (sym (length-zeros k))
    ∙ ap₂ xor_bits (enter_from_zeros p c w) (enter_only_zeros p r k h)
    ∙ sym (remainder-xor p (c ++ z) (r ++ zeros k) (simp (length-append, length-replicate) (omega arith)))

pub enter_is_formula : EnterIsFormula
enter_is_formula w p r c pos wide h =
    rw (← wide) (enter-formula p r c (omega arith) (h ∙ sym wide))
