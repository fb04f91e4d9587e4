-- The bits in which two strings or two lines differ. Document 01, part 4, defines the terms. Assumes nothing.
use Rattle.std.specs.Prelude.{◌≡◌, ℕ, suc, ◌+◌, ◌-◌, ◌<◌, Bool, true, false, List, [], ◌∷◌}
use Rattle.bits.specs.Strings.{xor_bits}
use Rattle.bits.specs.Bytes.{bits_of}

-- n in front where the bit is set
abbrev pub cons_if : Bool → ℕ → List ℕ → List ℕ
cons_if true n ns = n ∷ ns
cons_if false n ns = ns

-- the numbers of the bits that are set, where the first bit has the number n
abbrev pub set_from : ℕ → List Bool → List ℕ
set_from n [] = []
set_from n (x ∷ a) = cons_if x n (set_from (suc n) a)

-- the numbers of the bits in which two strings of one length differ, counted from 0
abbrev pub differing : List Bool → List Bool → List ℕ
differing a b = set_from 0 (xor_bits a b)

-- two lines of one length differ in each bit that is unequal at the same place
abbrev pub differing_bits : List ℕ → List ℕ → List ℕ
differing_bits A B = differing (bits_of A) (bits_of B)

-- two bits are n apart where their numbers differ by n
abbrev pub Apart : ℕ → ℕ → ℕ → Type 0
Apart n i j = (j - i) + (i - j) ≡ n

-- a property of every number of a list
abbrev pub Each : (ℕ → Type 0) → List ℕ → Type 0
Each P [] = Unit
Each P (n ∷ ns) = P n × Each P ns

-- a burst of b bits: no two of its bits are b or more apart
abbrev pub Burst : ℕ → List ℕ → Type 0
Burst b ns = Each (λ i. Each (λ j. j < i + b) ns) ns
