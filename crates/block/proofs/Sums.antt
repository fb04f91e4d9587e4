-- Bytes summed bit by bit: laws of `xor_all`. Assumes nothing.
use mathlib.Core.Path.{◌≡◌, refl}
use Prim.Native.Nat.{ℕ}
use mathlib.Core.List.{List, [], ◌∷◌, ◌++◌}
use lib.Bits.{bit_xor}
use Rattle.std.specs.List.{fold}
use Rattle.block.specs.Check.{xor_all}

pub xor_all-append : (sum : ℕ) (xs ys : List ℕ) → xor_all sum (xs ++ ys) ≡ xor_all (xor_all sum xs) ys
unfolding xor_all
xor_all-append sum [] ys = refl
xor_all-append sum (x ∷ xs) ys = xor_all-append (bit_xor sum x) xs ys

pub xor_all-nil : (sum : ℕ) → xor_all sum [] ≡ sum
unfolding xor_all
xor_all-nil sum = refl

-- the library's fold
pub xor_all_fold : (sum : ℕ) (bs : List ℕ) → fold bit_xor sum bs ≡ xor_all sum bs
unfolding xor_all
xor_all_fold sum [] = refl
xor_all_fold sum (b ∷ bs) = xor_all_fold (bit_xor sum b) bs
