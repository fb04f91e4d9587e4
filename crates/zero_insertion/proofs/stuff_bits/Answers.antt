-- `stuff_bits` meets its contract: the byte that code sends has zeros above the low bits. Assumes nothing.
use mathlib.Core.Path.{◌≡◌, ap, ap₂, ◌∙◌, subst}
use Prim.Native.Nat.{ℕ, ◌+◌, ◌*◌, ◌-◌, ◌/◌, ◌%◌, ◌^◌}
use native.Mathlib.Nat.{mod-eq_of_lt, one-mul}
use native.Mathlib.Omega.{arith}
use lib.Bits.{bit_and}
use lib.Pow.{pow-lt}
use Rattle.std.proofs.lemmas.Nat.{and_mask}
use Rattle.zero_insertion.specs.Insertion.{Sends}
use Rattle.zero_insertion.proofs.LowBits.{line, sent_low}
use Rattle.zero_insertion.proofs.stuff_bits.Goals as goal

pub returns : goal.returns
returns c b h =
    let a = c.args in
    let x = c.stuff_byte-sent.result in
    let k : bit_and a.k 7 ≡ a.k = and_mask a.k 3 ∙ mod-eq_of_lt h in
    let one : 1 * 2 ^ a.k % 256 ≡ 2 ^ a.k = ap (λ m. m % 256) (one-mul (2 ^ a.k)) ∙ mod-eq_of_lt (pow-lt h) in
    let low : bit_and a.byte (1 * 2 ^ bit_and a.k 7 % 256 - 1) ≡ a.byte % 2 ^ a.k =
    ap (λ n. bit_and a.byte (1 * 2 ^ n % 256 - 1)) k ∙ ap (λ m. bit_and a.byte (m - 1)) one ∙ and_mask a.byte a.k in
    let e = subst (λ (m : ℕ). Sends 8 a.before m x) low (c.stuff_byte-sent.ensures b) in
    let n : bit_and a.k 7 + bit_and x.zeros 3 ≡ a.k + x.zeros =
    ap₂ ◌+◌ k (and_mask x.zeros 2 ∙ mod-eq_of_lt (omega (arith, e.few))) in
    let l = line a.before a.byte a.k b h e in
    sent_low a.before a.byte a.k b h e (and_mask (l / 2 ^ (bit_and a.k 7 + bit_and x.zeros 3)) 4 ∙ ap (λ m. l / 2 ^ m % 16) n)
