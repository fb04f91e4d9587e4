-- Numbers spread: a byte, tested at every byte; and numbers of several bytes by those of each. Assumes nothing.
use mathlib.Core.Path.{◌≡◌, refl, sym, ap, ap₂, ◌∙◌}
use Prim.Native.Nat.{ℕ, ◌+◌, ◌*◌, ◌/◌, ◌%◌, ◌^◌, ◌<◌}
use native.Mathlib.Omega.{arith}
use mathlib.Core.Bool.{Bool, false}
use mathlib.Core.List.{List, [], ◌∷◌, ◌++◌}
use lib.Bits.{bit_and, bit_xor}
use lib.Dec.{T}
use Rattle.bits.specs.Strings.{same}
use Rattle.bits.specs.Bytes.{low_bits}
use Rattle.bits.proofs.Strings.{same_sound}
use Rattle.bits.proofs.Bytes.{low_bits-append, low_bits-mod}
use Rattle.bits.proofs.Tests.{every, every_at}
use Rattle.polynomials.specs.Product.{spread}

pub spread-append : (a b : List Bool) → spread (a ++ b) ≡ spread a ++ spread b
unfolding spread
spread-append [] b = refl
spread-append (x ∷ a) b = ap (λ z. false ∷ x ∷ z) (spread-append a b)

-- ---- a byte

-- as code has it
abbrev pub spread_number : ℕ → ℕ
spread_number byte =
    let halves = bit_and (bit_xor byte ((byte * 2 ^ 4) % 2 ^ 16)) 3855 in
    let pairs = bit_and (bit_xor halves ((halves * 2 ^ 2) % 2 ^ 16)) 13107 in
    let bits = bit_and (bit_xor pairs ((pairs * 2 ^ 1) % 2 ^ 16)) 21845 in
    (bits * 2 ^ 1) % 2 ^ 16

spread_right : ℕ → Bool
spread_right byte = same (low_bits 16 (spread_number byte)) (spread (low_bits 8 byte))

spread-all : T (every 256 spread_right)
unfolding every spread_right low_bits spread
spread-all = tt

pub spread_byte_lem : (byte : ℕ) → byte < 256 → low_bits 16 (spread_number byte) ≡ spread (low_bits 8 byte)
unfolding spread_right
spread_byte_lem byte h = same_sound (low_bits 16 (spread_number byte)) (spread (low_bits 8 byte)) (every_at 256 spread_right spread-all byte h)

-- ---- two numbers of j bits, each spread

pub spread_halves : (j n low high : ℕ) → low_bits (j + j) low ≡ spread (low_bits j (n % 2 ^ j)) → low_bits (j + j) high ≡ spread (low_bits j (n / 2 ^ j))
    → low_bits (j + j) low ++ low_bits (j + j) high ≡ spread (low_bits (j + j) n)
spread_halves j n low high e f =
    ap₂ ◌++◌ (e ∙ ap spread (low_bits-mod j n)) f ∙ sym (spread-append (low_bits j n) (low_bits j (n / 2 ^ j))) ∙ ap spread (sym (low_bits-append j j n))

-- and as one number
pub spread_joined : (n low high sum : ℕ) → low < 65536 → sum ≡ low + 65536 * high → low_bits 16 low ++ low_bits 16 high ≡ spread (low_bits 16 n)
    → low_bits 32 sum ≡ spread (low_bits 16 n)
spread_joined n low high sum h s e =
    let m : sum % 2 ^ 16 ≡ low = omega arith in
    let d : sum / 2 ^ 16 ≡ high = omega arith in
    low_bits-append 16 16 sum
    ∙ ap₂ ◌++◌ (sym (low_bits-mod 16 sum) ∙ ap (low_bits 16) m) (ap (low_bits 16) d) ∙ e
