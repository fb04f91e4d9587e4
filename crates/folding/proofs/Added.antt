-- Bits with what is yet to be added to them: a part after the other, and where nothing is left to add. Assumes nothing.
use mathlib.Core.Path.{◌≡◌, refl, sym, ap, ◌∙◌}
use Prim.Native.Nat.{ℕ, suc, ◌+◌, ◌-◌, ◌≤◌}
use native.Mathlib.Nat.{add_comm}
use native.Mathlib.Omega.{arith}
use mathlib.Core.Bool.{Bool, xor}
use mathlib.Core.List.{List, [], ◌∷◌, ◌++◌, append_assoc, append-nil}
use lib.ListN.{length, length-append}
use Rattle.bits.specs.Strings.{xor_bits, zeros}
use Rattle.bits.proofs.Strings.{length-zeros, xor_bits-nil, xor_bits_assoc, xor_bits-zeros, xor_bits-append, zeros-append}
use Rattle.registers.specs.Register.{enter, entered}
use Rattle.folding.specs.Fold.{added}
use Rattle.registers.proofs.Entered.{zeros_twice, begins}

-- a sum goes as far as the shorter string
xor_bits_short : (a b m : List Bool) → length m ≤ length a → xor_bits (a ++ b) m ≡ xor_bits a m
xor_bits_short [] b [] h = xor_bits-nil b
xor_bits_short [] b (y ∷ m) h = absurd (omega arith)
xor_bits_short (x ∷ a) b [] h = refl
xor_bits_short (x ∷ a) b (y ∷ m) h = ap (λ (s : List Bool). xor x y ∷ s) (xor_bits_short a b m (omega arith))

length_short : (a m : List Bool) → length m ≤ length a → length (xor_bits a m) ≡ length m
length_short [] [] h = refl
length_short [] (y ∷ m) h = absurd (omega arith)
length_short (x ∷ a) [] h = refl
length_short (x ∷ a) (y ∷ m) h = ap suc (length_short a m (omega arith))

pub added_none : (k : ℕ) (m : List Bool) → added (zeros k) m ≡ m
unfolding added
added_none k m =
    ap (λ z. xor_bits z m) (zeros-append k (length m) ∙ ap zeros (add_comm k (length m)) ∙ sym (zeros-append (length m) k))
    ∙ xor_bits_short (zeros (length m)) (zeros k) m (omega (arith, length-zeros (length m)))
    ∙ xor_bits-zeros (length m) m refl

-- zeros do not count
pub added-zeros : (a m : List Bool) (k : ℕ) → added (a ++ zeros k) m ≡ added a m
unfolding added
added-zeros a m k =
    let n = length m in
    ap (λ z. xor_bits z m)
    (append_assoc a (zeros k) (zeros n)
    ∙ ap (λ z. a ++ z) (zeros-append k n ∙ ap zeros (add_comm k n) ∙ sym (zeros-append n k)) ∙ sym (append_assoc a (zeros n) (zeros k)))
    ∙ xor_bits_short (a ++ zeros n) (zeros k) m (omega (arith, length-append a (zeros n), length-zeros n))

-- the first bits, and the others
pub added-append : (a b m n : List Bool) → length a ≡ length m → added (a ++ b) (m ++ n) ≡ xor_bits a m ++ added b n
unfolding added
added-append a b m n h =
    let k = length m in
    let l = length n in
    ap (λ x. xor_bits x (m ++ n)) (append_assoc a b (zeros (length (m ++ n))))
    ∙ xor_bits-append a m (b ++ zeros (length (m ++ n))) n h
    ∙ ap (λ z. xor_bits a m ++ xor_bits (b ++ z) n) (ap zeros (length-append m n ∙ add_comm k l) ∙ sym (zeros-append l k))
    ∙ ap (λ z. xor_bits a m ++ xor_bits z n) (sym (append_assoc b (zeros l) (zeros k)))
    ∙ ap (λ z. xor_bits a m ++ z) (xor_bits_short (b ++ zeros l) (zeros k) n (omega (arith, length-append b (zeros l), length-zeros l)))

-- as many as are pending
pub added_whole : (a m n : List Bool) → length a ≡ length m → added a (m ++ n) ≡ xor_bits a m ++ n
added_whole a m n h = ap (λ z. added z (m ++ n)) (sym (append-nil a)) ∙ added-append a [] m n h ∙ ap (λ z. xor_bits a m ++ z) (added_none 0 n)

pub length-added : (a m : List Bool) → length (added a m) ≡ length m
unfolding added
length-added a m = length_short (a ++ zeros (length m)) m (omega (arith, length-append a (zeros (length m)), length-zeros (length m)))

-- two strings, one after the other or both at once
pub added_twice : (a b m : List Bool) → length a ≡ length b → added a (added b m) ≡ added (xor_bits a b) m
unfolding added
added_twice a b m h =
    let k = length m in
    let z = zeros k in
    ap (λ n. xor_bits (a ++ zeros n) (added b m)) (length-added b m)
    ∙ sym (xor_bits_assoc (a ++ z) (b ++ z) m)
    ∙ ap (λ x. xor_bits x m) (xor_bits-append a b z z h ∙ ap (λ x. xor_bits a b ++ x) (zeros_twice k))

-- a register is what is yet to be added to the first bits
pub begins_added : (p r m : List Bool) → length r ≡ length p → length p ≤ length m → enter p r m ≡ entered p (added r m)
unfolding added
begins_added p r m h l =
    let k = length m - length p in
    let n = length m in
    let s : length m ≡ length p + k = omega arith in
    ap (enter p r) (sym (append-nil m)) ∙ begins p r m [] k h s
    ∙ ap (entered p) (append-nil (xor_bits (r ++ zeros k) m)
    ∙ sym (xor_bits_short (r ++ zeros k) (zeros (n - k)) m (omega (arith, length-append r (zeros k), length-zeros k)))
    ∙ ap (λ z. xor_bits z m) (append_assoc r (zeros k) (zeros (n - k)) ∙ ap (λ z. r ++ z) (zeros-append k (n - k) ∙ ap zeros (all k n (omega arith)))))
  where
    all : (i j : ℕ) → i ≤ j → i + (j - i) ≡ j
    all i j e = omega arith
