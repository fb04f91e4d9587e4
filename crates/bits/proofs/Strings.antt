-- Laws of bit strings: sums, zeros, weight and parity. Assumes nothing.
use mathlib.Core.Path.{◌≡◌, refl, sym, ap, ap₂, ◌∙◌}
use Prim.Native.Nat.{ℕ, zero, suc, ◌+◌, ◌%◌}
use native.Mathlib.Omega.{arith}
use mathlib.Core.Bool.{Bool, true, false, not, xor, cond}
use mathlib.Core.List.{List, [], ◌∷◌, ◌++◌}
use lib.Dec.{T}
use lib.ListN.{length, length-replicate, replicate-append-replicate}
use Rattle.bits.specs.Strings.{xor_bits, zeros, ones, invert, weight, parity, same}

-- ---- xor, the sum of two bits

pub false-xor : (x : Bool) → xor false x ≡ x
unfolding xor
false-xor true = refl
false-xor false = refl

pub true-xor : (x : Bool) → xor true x ≡ not x
unfolding xor
true-xor true = refl
true-xor false = refl

pub xor_self : (x : Bool) → xor x x ≡ false
unfolding xor
xor_self true = refl
xor_self false = refl

pub xor_comm : (x y : Bool) → xor x y ≡ xor y x
unfolding xor
xor_comm true true = refl
xor_comm true false = refl
xor_comm false true = refl
xor_comm false false = refl

pub xor-false : (x : Bool) → xor x false ≡ x
xor-false x = xor_comm x false ∙ false-xor x

pub xor_assoc : (x y z : Bool) → xor (xor x y) z ≡ xor x (xor y z)
unfolding xor
xor_assoc false y z = rw (false-xor y, false-xor (xor y z))
xor_assoc true false z = rw (false-xor z)
xor_assoc true true false = refl
xor_assoc true true true = refl

-- a bit added twice is gone
pub xor_cancel : (x y : Bool) → xor (xor x y) y ≡ x
xor_cancel x y = rw (xor_assoc x y y, xor_self y) (xor-false x)

pub xor_left_comm : (x y z : Bool) → xor x (xor y z) ≡ xor y (xor x z)
xor_left_comm x y z = rw (← xor_assoc x y z, xor_comm x y, xor_assoc y x z)

-- ---- zeros

pub length-zeros : (n : ℕ) → length (zeros n) ≡ n
length-zeros n = length-replicate n false

pub zeros-append : (n m : ℕ) → zeros n ++ zeros m ≡ zeros (n + m)
zeros-append n m = replicate-append-replicate n m false

pub zeros_snoc : (n : ℕ) → zeros n ++ false ∷ [] ≡ zeros (suc n)
zeros_snoc zero = refl
zeros_snoc (suc n) = rw (zeros_snoc n)

-- ---- xor_bits

pub length-xor : (a b : List Bool) → length a ≡ length b → length (xor_bits a b) ≡ length b
length-xor [] [] h = refl
length-xor [] (y ∷ b) h = absurd (omega arith)
length-xor (x ∷ a) [] h = absurd (omega arith)
length-xor (x ∷ a) (y ∷ b) h = ap suc (length-xor a b (omega arith))

pub xor_bits_comm : (a b : List Bool) → xor_bits a b ≡ xor_bits b a
xor_bits_comm [] [] = refl
xor_bits_comm [] (y ∷ b) = refl
xor_bits_comm (x ∷ a) [] = refl
xor_bits_comm (x ∷ a) (y ∷ b) = rw (xor_comm x y, xor_bits_comm a b)

pub xor_bits_assoc : (a b c : List Bool) → xor_bits (xor_bits a b) c ≡ xor_bits a (xor_bits b c)
xor_bits_assoc [] b c = refl
xor_bits_assoc (x ∷ a) [] c = refl
xor_bits_assoc (x ∷ a) (y ∷ b) [] = refl
xor_bits_assoc (x ∷ a) (y ∷ b) (z ∷ c) = rw (xor_assoc x y z, xor_bits_assoc a b c)

pub xor_bits_left_comm : (a b c : List Bool) → xor_bits a (xor_bits b c) ≡ xor_bits b (xor_bits a c)
xor_bits_left_comm a b c = rw (← xor_bits_assoc a b c, xor_bits_comm a b, xor_bits_assoc b a c)

pub xor_bits-nil : (a : List Bool) → xor_bits a [] ≡ []
xor_bits-nil [] = refl
xor_bits-nil (x ∷ a) = refl

pub xor_bits-zeros : (n : ℕ) (a : List Bool) → length a ≡ n → xor_bits (zeros n) a ≡ a
xor_bits-zeros zero [] h = refl
xor_bits-zeros zero (x ∷ a) h = absurd (omega arith)
xor_bits-zeros (suc n) [] h = absurd (omega arith)
xor_bits-zeros (suc n) (x ∷ a) h = rw (false-xor x, xor_bits-zeros n a (omega arith))

pub xor_bits_self : (a : List Bool) → xor_bits a a ≡ zeros (length a)
xor_bits_self [] = refl
xor_bits_self (x ∷ a) = rw (xor_self x, xor_bits_self a)

-- a string added twice is gone
pub xor_bits_cancel : (p a : List Bool) → length a ≡ length p → xor_bits p (xor_bits p a) ≡ a
xor_bits_cancel p a h = sym (xor_bits_assoc p p a) ∙ ap (λ z. xor_bits z a) (xor_bits_self p) ∙ xor_bits-zeros (length p) a h

pub xor_bits_injective : (p a b : List Bool) → length a ≡ length p → length b ≡ length p → xor_bits p a ≡ xor_bits p b → a ≡ b
xor_bits_injective p a b h k e = sym (xor_bits_cancel p a h) ∙ ap (xor_bits p) e ∙ xor_bits_cancel p b k

-- two strings of one length whose sum is zero are equal
pub equal_of_xor : (a b : List Bool) → length a ≡ length b → xor_bits a b ≡ zeros (length b) → a ≡ b
equal_of_xor a b h e =
    sym (xor_bits_cancel b a h) ∙ ap (xor_bits b) (xor_bits_comm b a ∙ e) ∙ xor_bits_comm b (zeros (length b)) ∙ xor_bits-zeros (length b) b refl

pub xor_bits-append : (a b c d : List Bool) → length a ≡ length b → xor_bits (a ++ c) (b ++ d) ≡ xor_bits a b ++ xor_bits c d
xor_bits-append [] [] c d h = refl
xor_bits-append [] (y ∷ b) c d h = absurd (omega arith)
xor_bits-append (x ∷ a) [] c d h = absurd (omega arith)
xor_bits-append (x ∷ a) (y ∷ b) c d h = rw (xor_bits-append a b c d (omega arith))

pub invert-xor : (a : List Bool) → invert a ≡ xor_bits (ones (length a)) a
invert-xor [] = refl
invert-xor (x ∷ a) = rw (invert-xor a, true-xor x)

-- ---- two strings of one length, each with a rest: equal where both parts are

pub append_split : (a b c d : List Bool) → length a ≡ length b → a ++ c ≡ b ++ d → (a ≡ b) × (c ≡ d)
append_split [] [] c d h e = (refl, e)
append_split [] (y ∷ b) c d h e = absurd (omega arith)
append_split (x ∷ a) [] c d h e = absurd (omega arith)
append_split (x ∷ a) (y ∷ b) c d h e =
    let p : x ≡ y = cc in
    let q : a ++ c ≡ b ++ d = cc in
    let r = append_split a b c d (omega arith) q in
    (ap₂ (λ z w. z ∷ w) p r.0, r.1)

-- ---- weight

pub weight-append : (a b : List Bool) → weight (a ++ b) ≡ weight a + weight b
weight-append [] b = omega arith
weight-append (true ∷ a) b = omega (arith, weight-append a b)
weight-append (false ∷ a) b = weight-append a b

pub weight-zeros : (n : ℕ) → weight (zeros n) ≡ 0
weight-zeros zero = refl
weight-zeros (suc n) = weight-zeros n

pub weight-zero : (a : List Bool) → weight a ≡ 0 → a ≡ zeros (length a)
weight-zero [] h = refl
weight-zero (true ∷ a) h = absurd (omega arith)
weight-zero (false ∷ a) h = ap (λ z. false ∷ z) (weight-zero a h)

-- ---- parity

pub parity-zeros : (n : ℕ) → parity (zeros n) ≡ false
parity-zeros zero = refl
parity-zeros (suc n) = rw (parity-zeros n) (false-xor false)

pub parity_snoc : (a : List Bool) (b : Bool) → parity (a ++ b ∷ []) ≡ xor b (parity a)
parity_snoc [] b = refl
parity_snoc (x ∷ a) b = rw (parity_snoc a b) (xor_left_comm x b (parity a))

pub parity-xor : (a b : List Bool) → length a ≡ length b → parity (xor_bits a b) ≡ xor (parity a) (parity b)
parity-xor [] [] h = sym (false-xor false)
parity-xor [] (y ∷ b) h = absurd (omega arith)
parity-xor (x ∷ a) [] h = absurd (omega arith)
parity-xor (x ∷ a) (y ∷ b) h =
    rw (parity-xor a b (omega arith), xor_assoc x y (xor (parity a) (parity b)), xor_left_comm y (parity a) (parity b), xor_assoc x (parity a) (xor y (parity b)))

pub weight-parity : (a : List Bool) → weight a % 2 ≡ cond (parity a) 1 0
weight-parity [] = refl
weight-parity (false ∷ a) = rw (false-xor (parity a)) (weight-parity a)
weight-parity (true ∷ a) = rw (true-xor (parity a)) (go (parity a) (weight-parity a))
  where
    go : (b : Bool) → weight a % 2 ≡ cond b 1 0 → suc (weight a) % 2 ≡ cond (not b) 1 0
    go true h = omega arith
    go false h = omega arith

-- ---- same

pub same_sound : (a b : List Bool) → T (same a b) → a ≡ b
same_sound [] [] t = refl
same_sound [] (y ∷ b) t = absurd t
same_sound (x ∷ a) [] t = absurd t
same_sound (true ∷ a) (true ∷ b) t = rw (same_sound a b t)
same_sound (true ∷ a) (false ∷ b) t = absurd t
same_sound (false ∷ a) (true ∷ b) t = absurd t
same_sound (false ∷ a) (false ∷ b) t = rw (same_sound a b t)

pub same_self : (a : List Bool) → same a a ≡ true
same_self [] = refl
same_self (true ∷ a) = same_self a
same_self (false ∷ a) = same_self a

pub xor_bits_four : (a b c d : List Bool) → xor_bits (xor_bits a b) (xor_bits c d) ≡ xor_bits (xor_bits a c) (xor_bits b d)
xor_bits_four a b c d = rw (xor_bits_assoc a b (xor_bits c d), xor_bits_left_comm b c d, xor_bits_assoc a c (xor_bits b d))
