-- Division of bit strings modulo 2. The first bit of a string is its highest power of x.
-- The divisor is x^w + p, where the string p holds the w coefficients below x^w. Assumes nothing.
use Rattle.std.specs.Prelude.{◌≡◌, ℕ, Bool, true, false, length}
use mathlib.Core.List.{List, [], ◌∷◌, ◌++◌, tail}
use Rattle.bits.specs.Strings.{xor_bits, zeros}

-- one step of long division: the register moves up a power and takes in the next bit; where the bit that leaves it is set,
-- the divisor is subtracted, which modulo 2 is to add it
abbrev pub step : List Bool → List Bool → Bool → List Bool
step p [] b = []
step p (true ∷ r) b = xor_bits p (r ++ b ∷ [])
step p (false ∷ r) b = r ++ b ∷ []

-- the register after all the bits
unfoldable pub divide : List Bool → List Bool → List Bool → List Bool
divide p r [] = r
divide p r (b ∷ bits) = divide p (step p r b) bits

-- the remainder: what an empty register holds after all the bits
unfoldable pub remainder : List Bool → List Bool → List Bool
remainder p bits = divide p (zeros (length p)) bits

-- the divisor divides a string that leaves no remainder
abbrev pub Divides : List Bool → List Bool → Type 0
Divides p bits = remainder p bits ≡ zeros (length p)

-- x to the power d, modulo the divisor, and whether it is 1
unfoldable pub power : List Bool → ℕ → List Bool
power p d = remainder p (true ∷ zeros d)

abbrev pub PowerIsOne : List Bool → ℕ → Type 0
PowerIsOne p d = power p d ≡ power p 0

-- the product of two polynomials: the second in the place of each power that the first has, summed
abbrev pub scale : Bool → List Bool → List Bool
scale true b = b
scale false b = zeros (length b)

abbrev pub times : List Bool → List Bool → List Bool
times [] b = zeros (length (tail b))
times (t ∷ a) b = xor_bits (scale t b ++ zeros (length a)) (false ∷ times a b)

-- bits = q · (x^w + p) + r, with r of w bits; leading zeros bring both sides to one length
pub record Divided (p bits q r : List Bool) : Type 0 where
  pub quotient_length : length q ≡ length bits
  pub remainder-length : length r ≡ length p
  pub equation : zeros (length p) ++ bits ≡ xor_bits (times q (true ∷ p)) (zeros (length bits) ++ r)

-- the coefficient of x^0
abbrev pub constant_term : List Bool → Bool
constant_term [] = false
constant_term (x ∷ []) = x
constant_term (x ∷ y ∷ l) = constant_term (y ∷ l)
