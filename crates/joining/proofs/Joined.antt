-- The joined check of any values: a sum, a product with a power, and three parts grouped. Assumes nothing.
use mathlib.Core.Path.{◌≡◌, refl, sym, ap, ap₂, ◌∙◌}
use Prim.Native.Nat.{ℕ, ◌+◌}
use native.Mathlib.Omega.{arith}
use mathlib.Core.Bool.{Bool}
use mathlib.Core.List.{List, ◌++◌}
use lib.ListN.{length, length-append, length-replicate}
use Rattle.bits.specs.Strings.{xor_bits, zeros}
use Rattle.bits.proofs.Strings.{length-zeros, zeros-append, xor_bits_assoc, xor_bits-zeros}
use Rattle.division.specs.Division.{divide, remainder}
use Rattle.division.proofs.Linear.{length-divide, divide-append, divide_linear, length-remainder, remainder-append, remainder-xor}
use Rattle.division.proofs.Zeros.{leading, remainder-full}
use Rattle.polynomials.proofs.Products.{product_with_power}
use Rattle.joining.specs.Joining.{joined}
use Rattle.joining.specs.Laws.{JoinedSum, JoinedByPower, JoinedGroups}

-- ---- the first moved up, plus the second

pub joined_sum : JoinedSum
unfolding joined
joined_sum p a b h k n =
    remainder-xor p (a ++ zeros n) (zeros n ++ b) (simp (length-append, length-replicate) (omega arith))
    ∙ ap (xor_bits (remainder p (a ++ zeros n))) (leading p n b ∙ remainder-full p b k)

pub joined_by_power : JoinedByPower
joined_by_power p a b pos h k n = joined_sum p a b h k n ∙ ap (λ z. xor_bits z b) (sym (product_with_power p a n pos))

-- the register that holds the first, after zeros
pub remainder_moved : (p a : List Bool) (n : ℕ) → length a ≡ length p → remainder p (a ++ zeros n) ≡ divide p a (zeros n)
remainder_moved p a n h = remainder-append p a (zeros n) ∙ ap (λ z. divide p z (zeros n)) (remainder-full p a h)

pub joined_divide : (p a b : List Bool) (n : ℕ) → length a ≡ length p → length b ≡ length p → joined p a b n ≡ xor_bits (divide p a (zeros n)) b
joined_divide p a b n h k = joined_sum p a b h k n ∙ ap (λ z. xor_bits z b) (remainder_moved p a n h)

pub length-joined : (p a b : List Bool) (n : ℕ) → length (joined p a b n) ≡ length p
unfolding joined
length-joined p a b n = length-remainder p _

-- zeros that follow a sum
pub divide_sum : (p a b : List Bool) (n : ℕ) → length a ≡ length p → length b ≡ length p
    → divide p (xor_bits a b) (zeros n) ≡ xor_bits (divide p a (zeros n)) (divide p b (zeros n))
divide_sum p a b n h k =
    let z = zeros n in
    ap (divide p (xor_bits a b)) (sym (xor_bits-zeros n z (length-zeros n))) ∙ divide_linear p a b z z h k refl

-- ---- three parts

pub joined_groups : JoinedGroups
joined_groups p a b c h k l n m =
    let d = divide p a (zeros n) in
    let ld : length d ≡ length p = length-divide p a (zeros n) h in
    let j = zeros m in
    joined_divide p (joined p a b n) c m (length-joined p a b n) l
    ∙ ap (λ z. xor_bits (divide p z j) c) (joined_divide p a b n h k)
    ∙ ap (λ z. xor_bits z c) (divide_sum p d b m ld k)
    ∙ xor_bits_assoc (divide p d j) (divide p b j) c
    ∙ ap₂ xor_bits (sym (divide-append p a (zeros n) j) ∙ ap (divide p a) (zeros-append n m)) (sym (joined_divide p b c m k l))
    ∙ sym (joined_divide p a (joined p b c m) (n + m) h (length-joined p b c m))
