-- Laws of lists: two lists one after the other, mapped and stored. Assumes nothing.
use mathlib.Core.Path.{◌≡◌, refl, ap, ◌∙◌}
use Prim.Native.Nat.{ℕ, suc, ◌+◌}
use native.Mathlib.Nat.{add-zero}
use native.Mathlib.Omega.{arith}
use mathlib.Core.List.{List, [], ◌∷◌, ◌++◌, map}
use lib.ListN.{length, set}
use lib.Seq.{sets}

pub sets_append : (xs ys l : List ℕ) (n : ℕ) → sets l n (xs ++ ys) ≡ sets (sets l n xs) (n + length xs) ys
sets_append [] ys l n = rw add-zero
sets_append (x ∷ xs) ys l n =
    let e : suc n + length xs ≡ n + suc (length xs) = omega arith in
    sets_append xs ys (set l n x) (suc n) ∙ ap (λ k. sets (sets (set l n x) (suc n) xs) k ys) e

pub map-append : (f : ℕ → ℕ) (xs ys : List ℕ) → map f (xs ++ ys) ≡ map f xs ++ map f ys
map-append f [] ys = refl
map-append f (x ∷ xs) ys = ap (λ z. f x ∷ z) (map-append f xs ys)
