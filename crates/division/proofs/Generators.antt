-- The generators of the standard: what the laws ask of them, the orders of x, and the receiver's remainders. All computed. Assumes nothing.
use mathlib.Core.Path.{◌≡◌, refl, sym, ◌∙◌}
use Prim.Native.Nat.{suc, ◌-◌, ◌*◌, ◌/◌}
use native.Mathlib.Omega.{arith}
use mathlib.Core.Bool.{Bool, ◌&&◌, true≢false, xor}
use mathlib.Core.List.{List, [], ◌∷◌, head-eq_of_cons-eq, tail-eq_of_cons-eq}
use lib.Dec.{T}
use Rattle.division.specs.Division.{divide, remainder, power}
use Rattle.division.specs.Generators.{ccitt16, ibm16, ieee32}
use Rattle.division.specs.Laws.{Generator, EvenTerms, OrderIs, OrderAbove, order16, reach16, reach32, Receiver16, Receiver32, Misprint32}
use Rattle.division.proofs.Order.{certified, order, both, all, all_at, is_not_one, is_not_one_lem, squares}

-- ---- width and terms

pub ccitt16_generator : Generator 16 ccitt16
unfolding ccitt16
ccitt16_generator = record { width = refl; constant = refl }

pub ibm16_generator : Generator 16 ibm16
unfolding ibm16
ibm16_generator = record { width = refl; constant = refl }

pub ieee32_generator : Generator 32 ieee32
unfolding ieee32
ieee32_generator = record { width = refl; constant = refl }

pub ccitt16_even : EvenTerms ccitt16
unfolding ccitt16 xor
ccitt16_even = refl

pub ibm16_even : EvenTerms ibm16
unfolding ibm16 xor
ibm16_even = refl

-- ---- orders: 32,767 = 7 · 31 · 151, and 2^32 - 1 = 3 · 5 · 17 · 257 · 65,537

ccitt16_certificate : T (certified ccitt16 15 order16 (7 ∷ 31 ∷ 151 ∷ []))
unfolding ccitt16 divide remainder power xor
ccitt16_certificate = tt

ibm16_certificate : T (certified ibm16 15 order16 (7 ∷ 31 ∷ 151 ∷ []))
unfolding ibm16 divide remainder power xor
ibm16_certificate = tt

-- the order is a multiple of 65,535; the multiples within the limit are tried one by one
ieee32_certificate : T (certified ieee32 32 4294967295 (3 ∷ 5 ∷ 17 ∷ 257 ∷ []))
unfolding ieee32 divide remainder power xor
ieee32_certificate = tt

ieee32_multiples : T (squares ieee32 && all (λ j. is_not_one ieee32 20 (65535 * suc j)) 8)
unfolding ieee32 divide remainder power xor
ieee32_multiples = tt

order_16 : (p : List Bool) → T (certified p 15 order16 (7 ∷ 31 ∷ 151 ∷ [])) → OrderIs p order16 reach16
order_16 p c d h k =
    let t = order p 15 order16 (7 ∷ 31 ∷ 151 ∷ []) c in
    (λ e. omega (arith, t.1 d e), λ e. rw e t.0)

pub order_ccitt16 : OrderIs ccitt16 order16 reach16
order_ccitt16 = order_16 ccitt16 ccitt16_certificate

pub order_ibm16 : OrderIs ibm16 order16 reach16
order_ibm16 = order_16 ibm16 ibm16_certificate

pub order_ieee32 : OrderAbove ieee32 reach32
order_ieee32 d h k e =
    let m = (order ieee32 32 4294967295 (3 ∷ 5 ∷ 17 ∷ 257 ∷ []) ieee32_certificate).1 d e in
    let j = d / 65535 - 1 in
    let i : 65535 * suc j ≡ d = omega arith in
    let a = both (squares ieee32) (all (λ j. is_not_one ieee32 20 (65535 * suc j)) 8) ieee32_multiples in
    is_not_one_lem ieee32 20 (65535 * suc j) a.0 (all_at (λ j. is_not_one ieee32 20 (65535 * suc j)) 8 j a.1 (omega arith)) (rw i e)

-- ---- the receiver's remainders

pub receiver_16 : Receiver16
unfolding ccitt16 divide remainder xor
receiver_16 = refl

pub receiver_32 : Receiver32
unfolding ieee32 divide remainder xor
receiver_32 = refl

-- the printed string is another at the second digit
pub misprint_32 : Misprint32
misprint_32 e = true≢false (head-eq_of_cons-eq (tail-eq_of_cons-eq (sym receiver_32 ∙ e)))
