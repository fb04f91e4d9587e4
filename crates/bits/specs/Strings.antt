-- Bit strings. The first bit is the first sent; where a string stands for a polynomial it is the highest power. Assumes nothing.
use Rattle.std.specs.Prelude.{ℕ, zero, suc, Bool, true, false, not, ◌&&◌, List, [], ◌∷◌, map, replicate}
use Rattle.std.specs.Bool.{xor, beq}

-- the sum of two strings bit by bit, as long as the shorter one; the sum of two bits modulo 2 is xor
abbrev pub xor_bits : List Bool → List Bool → List Bool
xor_bits [] b = []
xor_bits (x ∷ a) [] = []
xor_bits (x ∷ a) (y ∷ b) = xor x y ∷ xor_bits a b

abbrev pub zeros : ℕ → List Bool
zeros n = replicate n false

abbrev pub ones : ℕ → List Bool
ones n = replicate n true

abbrev pub invert : List Bool → List Bool
invert = map not

-- how many bits are set
abbrev pub weight : List Bool → ℕ
weight [] = zero
weight (true ∷ a) = suc (weight a)
weight (false ∷ a) = weight a

-- the sum of all bits modulo 2: whether the weight is odd
abbrev pub parity : List Bool → Bool
parity [] = false
parity (x ∷ a) = xor x (parity a)

-- whether two strings are equal
abbrev pub same : List Bool → List Bool → Bool
same [] [] = true
same [] (y ∷ b) = false
same (x ∷ a) [] = false
same (x ∷ a) (y ∷ b) = beq x y && same a b
