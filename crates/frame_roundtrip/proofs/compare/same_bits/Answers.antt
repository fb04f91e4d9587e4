-- `same_bits` meets its contract: the mask leaves the low bits. Assumes nothing.
use mathlib.Core.Path.{◌≡◌, sym, ap, ◌∙◌}
use Prim.Native.Nat.{◌*◌, ◌-◌, ◌%◌, ◌^◌}
use native.Mathlib.Nat.{mod-eq_of_lt, one-mul}
use lib.Bits.{bit_and}
use lib.Pow.{pow-lt}
use borrow.Author.Tests.{eqb-true, eq-eqb}
use Rattle.std.proofs.lemmas.Nat.{and_mask}
use Rattle.frame_roundtrip.proofs.Comparing.{low_same, same_low}
use Rattle.frame_roundtrip.proofs.compare.same_bits.Goals as goal

pub returns : goal.returns
returns c =
    let a = c.args in
    let one : 1 * 2 ^ a.k % 256 ≡ 2 ^ a.k = ap (λ m. m % 256) (one-mul (2 ^ a.k)) ∙ mod-eq_of_lt (pow-lt c.requires) in
    let x : bit_and a.a (1 * 2 ^ a.k % 256 - 1) ≡ a.a % 2 ^ a.k = ap (λ m. bit_and a.a (m - 1)) one ∙ and_mask a.a a.k in
    let y : bit_and a.b (1 * 2 ^ a.k % 256 - 1) ≡ a.b % 2 ^ a.k = ap (λ m. bit_and a.b (m - 1)) one ∙ and_mask a.b a.k in
    (λ e. low_same a.k a.a a.b (sym x ∙ eqb-true _ _ e ∙ y), λ e. eq-eqb _ _ (x ∙ same_low a.k a.a a.b e ∙ sym y))
