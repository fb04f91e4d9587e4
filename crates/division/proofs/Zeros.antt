-- Zeros before and behind a string, and strings no longer than the register. Assumes nothing.
use mathlib.Core.Path.{◌≡◌, refl, sym, ap, ◌∙◌}
use Prim.Native.Nat.{ℕ, zero, suc, ◌+◌, ◌-◌, ◌≤◌}
use native.Mathlib.Omega.{arith}
use mathlib.Core.Bool.{Bool, true, false, true≢false, xor}
use mathlib.Core.List.{List, [], ◌∷◌, ◌++◌, append_assoc, append_cancel_right, append-nil}
use lib.ListN.{length}
use Rattle.bits.specs.Strings.{xor_bits, zeros}
use Rattle.bits.proofs.Strings.{zeros_snoc, zeros-append, length-zeros, length-xor, xor_bits-zeros, xor_bits_self, equal_of_xor, xor-false}
use Rattle.division.specs.Division.{step, divide, remainder, Divides, constant_term}
use Rattle.division.specs.Laws.{LeadingZeros, TrailingZeros}
use Rattle.division.proofs.Linear.{length-step, divide-append, length-divide, divide_linear, length-remainder, remainder-append}

-- ---- leading zeros

step-zeros : (p : List Bool) (n : ℕ) → step p (zeros n) false ≡ zeros n
step-zeros p zero = refl
step-zeros p (suc n) = zeros_snoc n

pub divide-zeros : (p : List Bool) (n m : ℕ) → divide p (zeros n) (zeros m) ≡ zeros n
unfolding divide
divide-zeros p n zero = refl
divide-zeros p n (suc m) = ap (λ z. divide p z (zeros m)) (step-zeros p n) ∙ divide-zeros p n m

pub divides_zeros : (p : List Bool) (n : ℕ) → Divides p (zeros n)
unfolding remainder
divides_zeros p n = divide-zeros p (length p) n

pub leading : LeadingZeros
unfolding remainder
leading p n a = divide-append p (zeros (length p)) (zeros n) a ∙ ap (λ z. divide p z a) (divide-zeros p (length p) n)

-- ---- trailing zeros

last_xor : (a r : List Bool) (b : Bool) → length a ≡ suc (length r) → constant_term (xor_bits a (r ++ b ∷ [])) ≡ xor (constant_term a) b
last_xor [] r b h = absurd (omega arith)
last_xor (x ∷ []) [] b h = refl
last_xor (x ∷ y ∷ a) [] b h = absurd (omega arith)
last_xor (x ∷ []) (t ∷ r) b h = absurd (omega arith)
last_xor (x ∷ y ∷ a) (t ∷ []) b h = last_xor (y ∷ a) [] b (omega arith)
last_xor (x ∷ y ∷ a) (t ∷ u ∷ r) b h = last_xor (y ∷ a) (u ∷ r) b (omega arith)

last_zeros : (n : ℕ) → constant_term (zeros n) ≡ false
last_zeros zero = refl
last_zeros (suc zero) = refl
last_zeros (suc (suc n)) = last_zeros (suc n)

-- x times a register is zero for none but zero: else the constant term of the divisor would stay
step_kernel : (p r : List Bool) → constant_term p ≡ true → length r ≡ length p → step p r false ≡ zeros (length p) → r ≡ zeros (length p)
step_kernel p [] l h e = ap zeros h
step_kernel p (true ∷ r) l h e = absurd (true≢false (cc (last_xor p r false (omega arith), xor-false (constant_term p), last_zeros (length p))))
step_kernel p (false ∷ r) l h e =
    rw (← h) (ap (λ z. false ∷ z) (append_cancel_right r (zeros (length r)) (false ∷ []) (e ∙ ap zeros (sym h) ∙ sym (zeros_snoc (length r)))))

divide_kernel : (p r : List Bool) (n : ℕ) → constant_term p ≡ true → length r ≡ length p → divide p r (zeros n) ≡ zeros (length p) → r ≡ zeros (length p)
unfolding divide
divide_kernel p r zero l h e = e
divide_kernel p r (suc n) l h e = step_kernel p r l h (divide_kernel p (step p r false) n l (length-step p r false h) e)

-- so zeros that follow keep two registers apart
pub divide_injective : (p r s : List Bool) (n : ℕ) → constant_term p ≡ true → length r ≡ length p → length s ≡ length p
    → divide p r (zeros n) ≡ divide p s (zeros n) → r ≡ s
divide_injective p r s n l h k e =
    let z = zeros n in
    let d = divide p s z in
    equal_of_xor r s (h ∙ sym k)
    (divide_kernel p (xor_bits r s) n l (length-xor r s (h ∙ sym k) ∙ k)
    (ap (divide p (xor_bits r s)) (sym (xor_bits-zeros n z (length-zeros n))) ∙ divide_linear p r s z z h k refl ∙ ap (λ v. xor_bits v d) e
    ∙ xor_bits_self d ∙ ap zeros (length-divide p s z k)) ∙ ap zeros (sym k))

pub trailing : TrailingZeros
trailing p a n l = (
  λ e. divide_kernel p (remainder p a) n l (length-remainder p a) (sym (remainder-append p a (zeros n)) ∙ e),
  λ e. remainder-append p a (zeros n) ∙ ap (λ z. divide p z (zeros n)) e ∙ divide-zeros p (length p) n,
)

-- ---- strings that the register holds whole

-- bits move in while only zeros leave
move_in : (p r b : List Bool) → divide p (zeros (length b) ++ r) b ≡ r ++ b
unfolding divide
move_in p r [] = sym (append-nil r)
move_in p r (x ∷ b) =
    ap (λ z. divide p z b) (append_assoc (zeros (length b)) r (x ∷ [])) ∙ move_in p (r ++ x ∷ []) b ∙ append_assoc r (x ∷ []) b

-- a string no longer than the register is its own remainder
pub remainder_short : (p b : List Bool) → length b ≤ length p → remainder p b ≡ zeros (length p - length b) ++ b
unfolding remainder
remainder_short p b h =
    let s : length b + (length p - length b) ≡ length p = omega arith in
    ap (λ n. divide p (zeros n) b) (sym s)
    ∙ ap (λ z. divide p z b) (sym (zeros-append (length b) (length p - length b)))
    ∙ move_in p (zeros (length p - length b)) b

pub remainder-full : (p a : List Bool) → length a ≡ length p → remainder p a ≡ a
remainder-full p a h =
    let z : length p - length a ≡ 0 = omega arith in
    remainder_short p a (omega arith) ∙ ap (λ n. zeros n ++ a) z
