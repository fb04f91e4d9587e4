-- Which differences of two strings leave no remainder. Assumes nothing.
use mathlib.Core.Path.{◌≡◌, refl, sym, ap, ◌∙◌}
use mathlib.Core.Logic.{◌↔◌}
use Prim.Native.Nat.{ℕ, suc, ◌+◌, ◌-◌, ◌≤◌}
use native.Mathlib.Omega.{arith}
use mathlib.Core.Bool.{Bool, true, false, true≢false, xor, cond}
use mathlib.Core.List.{List, [], ◌∷◌, ◌++◌, append_cancel_left}
use lib.ListN.{length, length-append, length-replicate}
use Rattle.bits.specs.Strings.{xor_bits, zeros, parity}
use Rattle.bits.specs.Differences.{differing}
use Rattle.bits.proofs.Strings.{length-zeros, length-xor, xor_bits-zeros, xor_bits_self, zeros-append, equal_of_xor, false-xor, xor-false, xor_assoc, xor_left_comm, parity_snoc, parity-xor, parity-zeros, weight-parity}
use Rattle.bits.proofs.Differences.{Window, burst_window, burst_widen, two-differing, one_differing, length-differing, equal_of_differing}
use Rattle.division.specs.Division.{step, divide, remainder, Divides, power, PowerIsOne, constant_term}
use Rattle.division.specs.Laws.{Undetected, DifferenceDivides, DetectsBursts, DetectsOdd, TwoBits, DetectsTwo}
use Rattle.division.proofs.Linear.{length-step, length-remainder, remainder-xor}
use Rattle.division.proofs.Zeros.{leading, trailing, remainder_short}

-- ---- two strings of one length have one remainder exactly where their difference leaves none

pub difference : DifferenceDivides
difference p a b h = (
  λ e. remainder-xor p a b h ∙ ap (λ z. xor_bits z (remainder p b)) e ∙ xor_bits_self (remainder p b) ∙ ap zeros (length-remainder p b),
  λ e. equal_of_xor (remainder p a) (remainder p b) (length-remainder p a ∙ sym (length-remainder p b))
      (sym (remainder-xor p a b h) ∙ e ∙ ap zeros (sym (length-remainder p b))),
)

divides : (p a b : List Bool) → Undetected p a b → Divides p (xor_bits a b)
divides p a b u = (difference p a b u.one_length).0 u.one_remainder

-- ---- bursts

-- at most as many bits as the register holds, zeros around them, are no multiple of the divisor unless they are zero
divides_window : (p b : List Bool) (i j : ℕ) → constant_term p ≡ true → length b ≤ length p → Divides p (zeros i ++ (b ++ zeros j)) → b ≡ zeros (length b)
divides_window p b i j l h e =
    let s : (length p - length b) + length b ≡ length p = omega arith in
    append_cancel_left (zeros (length p - length b)) b (zeros (length b))
    (sym (remainder_short p b h) ∙ (trailing p b j l).0 (sym (leading p i (b ++ zeros j)) ∙ e)
    ∙ ap zeros (sym s) ∙ sym (zeros-append (length p - length b) (length b)))

window_equal : (p a b : List Bool) → constant_term p ≡ true → Undetected p a b → Window (length p) (xor_bits a b) → a ≡ b
window_equal p a b l u w =
    let e = w.bits in
    let z : e ≡ zeros (length e) = divides_window p e w.before w.after l w.small (sym (ap (remainder p) w.whole) ∙ divides p a b u) in
    let n : length (xor_bits a b) ≡ w.before + (length e + w.after) = ap length w.whole ∙ simp (length-append, length-replicate) refl in
    equal_of_xor a b u.one_length
    (w.whole ∙ ap (λ v. zeros w.before ++ (v ++ zeros w.after)) z
    ∙ ap (λ v. zeros w.before ++ v) (zeros-append (length e) w.after) ∙ zeros-append w.before (length e + w.after)
    ∙ ap zeros (sym n ∙ length-xor a b u.one_length))

pub burst : DetectsBursts
burst p a b l u n h e = window_equal p a b l u (burst_window (length p) a b (burst_widen n (length p) (differing a b) h e))

-- ---- odd numbers of bits, where the low part of the divisor has an odd number of terms: then a step adds just the new bit to the parity

parity-step : (p r : List Bool) (b : Bool) → parity p ≡ true → length r ≡ length p → parity (step p r b) ≡ xor b (parity r)
parity-step [] [] b o h = absurd (true≢false (sym o))
parity-step (x ∷ p) [] b o h = absurd (omega arith)
parity-step p (true ∷ r) b o h = parity-xor p (r ++ b ∷ []) (simp length-append (omega arith)) ∙ rw (o, parity_snoc r b) (xor_left_comm true b (parity r))
parity-step p (false ∷ r) b o h = rw (false-xor (parity r)) (parity_snoc r b)

parity-divide : (p r a : List Bool) → parity p ≡ true → length r ≡ length p → parity (divide p r a) ≡ xor (parity a) (parity r)
unfolding divide
parity-divide p r [] o h = sym (false-xor (parity r))
parity-divide p r (x ∷ a) o h =
    parity-divide p (step p r x) a o (length-step p r x h)
    ∙ rw (parity-step p r x o h) (xor_left_comm (parity a) x (parity r) ∙ sym (xor_assoc x (parity a) (parity r)))

pub parity-remainder : (p a : List Bool) → parity p ≡ true → parity (remainder p a) ≡ parity a
unfolding remainder
parity-remainder p a o =
    parity-divide p (zeros (length p)) a o (length-zeros (length p))
    ∙ ap (xor (parity a)) (parity-zeros (length p)) ∙ xor-false (parity a)

pub even : DetectsOdd
even p a b o u =
    weight-parity (xor_bits a b)
    ∙ ap (λ t. cond t 1 0) (sym (parity-remainder p (xor_bits a b) o) ∙ ap parity (divides p a b u) ∙ parity-zeros (length p))

-- ---- two bits

pair_sum : (k : ℕ) → true ∷ (zeros k ++ true ∷ []) ≡ xor_bits (true ∷ zeros (suc k)) (zeros (suc k) ++ true ∷ [])
unfolding xor
pair_sum k = ap (λ z. true ∷ z) (sym (xor_bits-zeros (suc k) (zeros k ++ true ∷ []) (simp (length-append, length-replicate) (omega arith))))

remainder_pair : (p : List Bool) (k : ℕ) → remainder p (true ∷ (zeros k ++ true ∷ [])) ≡ xor_bits (power p (suc k)) (power p 0)
unfolding power
remainder_pair p k =
    ap (remainder p) (pair_sum k)
    ∙ remainder-xor p (true ∷ zeros (suc k)) (zeros (suc k) ++ true ∷ []) (simp (length-append, length-replicate) (omega arith))
    ∙ ap (xor_bits (power p (suc k))) (leading p (suc k) (true ∷ []))

pub length-power : (p : List Bool) (d : ℕ) → length (power p d) ≡ length p
unfolding power
length-power p d = length-remainder p (true ∷ zeros d)

divides_pair : (p : List Bool) (i k j : ℕ) → constant_term p ≡ true → Divides p (zeros i ++ ((true ∷ (zeros k ++ true ∷ [])) ++ zeros j)) ↔ PowerIsOne p (suc k)
divides_pair p i k j l =
    let pair = true ∷ (zeros k ++ true ∷ []) in (
      λ e. equal_of_xor (power p (suc k)) (power p 0) (length-power p (suc k) ∙ sym (length-power p 0))
          (sym (remainder_pair p k) ∙ (trailing p pair j l).0 (sym (leading p i (pair ++ zeros j)) ∙ e) ∙ ap zeros (sym (length-power p 0))),
      λ e. leading p i (pair ++ zeros j)
          ∙ (trailing p pair j l).1 (remainder_pair p k ∙ ap (λ z. xor_bits z (power p 0)) e ∙ xor_bits_self (power p 0) ∙ ap zeros (length-power p 0)),
    )

pub two-bits : TwoBits
two-bits p a b l h i j e =
    let t = two-differing a b i j e in
    let d = difference p a b h in
    let q = divides_pair p t.before t.between t.after l in
    let n : j - i ≡ suc t.between = omega (arith, t.apart) in (
      λ r. ap (power p) n ∙ q.0 (sym (ap (remainder p) t.whole) ∙ d.0 r),
      λ o. d.1 (ap (remainder p) t.whole ∙ q.1 (sym (ap (power p) n) ∙ o)),
    )

-- ---- at most two bits, where x^d is 1 at no distance within the string

pub three_bits : DetectsTwo
three_bits p a b l w far u h = go (differing a b) refl
  where
    one : Window 1 (xor_bits a b) → a ≡ b
    one v =
        window_equal p a b l u
        (record { before = v.before; after = v.after; bits = v.bits; small = omega (arith, v.small); whole = v.whole })

    go : (ns : List ℕ) → differing a b ≡ ns → a ≡ b
    go [] e = equal_of_differing a b u.one_length e
    go (i ∷ []) e = one (one_differing a b i e)
    go (i ∷ j ∷ []) e =
        let t = two-differing a b i j e in
        absurd
        (far (j - i) (omega (arith, t.apart)) (omega (arith, t.apart, t.inside, length-xor a b u.one_length, u.one_length))
        ((two-bits p a b l u.one_length i j e).0 u.one_remainder))
    go (i ∷ j ∷ k ∷ ns) e = absurd (omega (arith, ap length e, length-differing a b))
