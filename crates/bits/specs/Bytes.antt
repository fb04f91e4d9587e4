-- Numbers and bytes as bit strings, the lowest bit first, and back. Assumes nothing.
use Rattle.std.specs.Prelude.{ℕ, zero, suc, ◌+◌, ◌*◌, ◌/◌, ◌%◌, ◌<◌, Bool, cond, List, [], ◌∷◌, ◌++◌, eqb, length, take, drop}

-- the w low bits of a number
unfoldable pub low_bits : ℕ → ℕ → List Bool
low_bits zero n = []
low_bits (suc w) n = eqb (n % 2) 1 ∷ low_bits w (n / 2)

-- the bits of bytes in the order sent: each byte from its low bit up
unfoldable pub bits_of : List ℕ → List Bool
bits_of [] = []
bits_of (b ∷ bs) = low_bits 8 b ++ bits_of bs

-- every number of a list is a byte
abbrev pub Bytes : List ℕ → Type 0
Bytes [] = Unit
Bytes (b ∷ bs) = (b < 256) × Bytes bs

-- the number whose bits these are
unfoldable pub value : List Bool → ℕ
value [] = 0
value (b ∷ s) = cond b 1 0 + 2 * value s

-- how many bytes n bits take
abbrev pub bytes_for : ℕ → ℕ
bytes_for n = (n + 7) / 8

-- n bytes, eight bits to each; where the bits end before the bytes do, the rest is zero
unfoldable pub pack_into : ℕ → List Bool → List ℕ
pack_into zero s = []
pack_into (suc n) s = value (take 8 s) ∷ pack_into n (drop 8 s)

-- the bytes of a bit string, the spare high bits of the last byte zero
unfoldable pub pack : List Bool → List ℕ
pack s = pack_into (bytes_for (length s)) s
