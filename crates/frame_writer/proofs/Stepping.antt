-- The running pair is the number of bits divided by eight, and what is left over. Assumes nothing.
use mathlib.Core.Path.{◌≡◌, refl, sym, ap, ap₂, ◌∙◌}
use Prim.Native.Nat.{ℕ, zero, suc, ◌+◌, ◌*◌, ◌/◌, ◌%◌, ◌<◌}
use native.Mathlib.Omega.{arith}
use mathlib.Core.Bool.{Bool, true, false, cond}
use lib.Dec.{eqb}
use borrow.Author.Tests.{eqb-true, eqb-false}
use Rattle.frame_writer.specs.declared.Position.{Position}
use Rattle.frame_writer.specs.Stepping.{Pair, at, step, stepped, pair}
use Rattle.frame_writer.specs.Steps.{bits_before}

-- n divided by eight, and what is left over
abbrev pub divided : ℕ → Pair
divided n = at (n / 8) (n % 8)

one_on : (n : ℕ) → step (divided n) ≡ divided (n + 1)
one_on n = go (eqb (n % 8) 7) refl
  where
    go : (t : Bool) → eqb (n % 8) 7 ≡ t → cond t (at (n / 8 + 1) 0) (at (n / 8) (n % 8 + 1)) ≡ divided (n + 1)
    go true e = let k = eqb-true (n % 8) 7 e in ap₂ at (omega arith) (omega arith)
    go false e = let k = eqb-false (n % 8) 7 e in ap₂ at (omega arith) (omega arith)

from : (n index place : ℕ) → place < 8 → stepped n (at index place) ≡ divided (8 * index + place + n)
unfolding stepped
from zero i p h = ap₂ at (omega (arith, h)) (omega (arith, h))
from (suc n) i p h =
    let one : 8 * i + p + n + 1 ≡ 8 * i + p + suc n = omega arith in
    ap step (from n i p h) ∙ one_on (8 * i + p + n) ∙ ap divided one

-- after every number of bits, inserted zeros and flags among them
pub divided_by_eight : (n : ℕ) → stepped n (at 0 0) ≡ at (n / 8) (n % 8)
divided_by_eight n =
    let all : 8 * 0 + 0 + n ≡ n = omega arith in
    from n 0 0 (omega arith) ∙ ap divided all

pub pair_divided : (p : Position) → pair p ≡ divided (bits_before p)
unfolding pair
pair_divided p = ap₂ at (omega (arith, p.place_small)) (omega (arith, p.place_small))

-- n bits on
pub moved : (p q : Position) (n : ℕ) → bits_before q ≡ bits_before p + n → pair q ≡ stepped n (pair p)
unfolding pair
moved p q n e = ap₂ at (omega (arith, e, q.place_small)) (omega (arith, e, q.place_small)) ∙ sym (from n p.index p.place p.place_small)

pub bits_stepped : (p q : Position) (n : ℕ) → pair q ≡ stepped n (pair p) → bits_before q ≡ bits_before p + n
unfolding pair
bits_stepped p q n e =
    let f : pair q ≡ divided (8 * p.index + p.place + n) = e ∙ from n p.index p.place p.place_small in
    let i : q.index ≡ (8 * p.index + p.place + n) / 8 = cc in
    let k : q.place ≡ (8 * p.index + p.place + n) % 8 = cc in
    omega arith

-- from before the first bit on
pub bits_opened : (q : Position) (n : ℕ) → pair q ≡ stepped n (at 0 0) → bits_before q ≡ n
unfolding pair
bits_opened q n e =
    let f : pair q ≡ divided n = e ∙ divided_by_eight n in
    let i : q.index ≡ n / 8 = cc in
    let k : q.place ≡ n % 8 = cc in
    omega arith
