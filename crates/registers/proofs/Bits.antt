-- The lowest bits of a byte enter a register alone through the table of the generator, and so does a string of any number of bits.
-- Assumes nothing.
use mathlib.Core.Path.{◌≡◌, sym, ap, ap₂, subst, ◌∙◌}
use Prim.Native.Nat.{ℕ, ◌+◌, ◌-◌, ◌*◌, ◌/◌, ◌%◌, ◌^◌, ◌<◌, ◌≤◌}
use native.Mathlib.Nat.{mod-lt, mul-mod_left, add_comm, add-zero, div-eq_of_lt, mul_assoc, mod-eq_of_lt}
use native.Mathlib.Omega.{arith}
use mathlib.Core.Bool.{Bool}
use mathlib.Core.List.{List, ◌++◌}
use lib.Bits.{bit_and, bit_xor, xor_lt}
use lib.ListN.{length, drop, get_or, length-drop, take-append-drop}
use lib.Pow.{pow_pos, pow_mono, pow-add, mod-pow-add, mod-mod-pow, shl-shr, shr_le}
use Rattle.std.proofs.lemmas.Nat.{and_mask}
use Rattle.bits.specs.Strings.{xor_bits, zeros}
use Rattle.bits.specs.Bytes.{low_bits, bits_of, value, pack_into}
use Rattle.bits.proofs.Strings.{length-zeros, zeros-append}
use Rattle.bits.proofs.Bytes.{low_bits-append, low_bits-mod, low_bits-zero, low_bits-xor, low_bits-value}
use Rattle.bits.proofs.WholeBytes.{bits_of-pack_into}
use Rattle.division.specs.Division.{divide}
use Rattle.registers.specs.Register.{enter, entry, table_of, enter_bits_by_table, enter_all_by_table, enter_string_by_table}
use Rattle.registers.specs.Laws.{TableEntersBits, TableEntersString}
use Rattle.registers.proofs.Enter.{enter-append, enter-zeros}
use Rattle.registers.proofs.Table.{enter_self, enter_low, table_at, entry-bits, entry_lt, table_enters, enter_all_by_table_lt}

-- a number moved up by i places
shl_mod : (n k i : ℕ) → n * 2 ^ i % 2 ^ (k + i) ≡ n % 2 ^ k * 2 ^ i
shl_mod n k i =
    mod-pow-add (n * 2 ^ i) k i ∙ ap₂ (λ a b. a % 2 ^ k * 2 ^ i + b) (shl-shr n i) (mul-mod_left n (2 ^ i)) ∙ add-zero (n % 2 ^ k * 2 ^ i)

-- as code has the low bits last in a byte, in a register of i + 8 bits: moved up by a byte and down by k
pub last_in_byte : (i n k : ℕ) → 8 ≤ i → k ≤ 8 → bit_and (n * 256 % 2 ^ (i + 8) / 2 ^ k) 255 ≡ n % 2 ^ k * 2 ^ (8 - k)
last_in_byte i n k wide few =
    let e : 8 ≡ k + (8 - k) = omega arith in
    let up : 8 ≡ 8 - k + k = omega arith in
    let j : i ≡ i - k + k = omega arith in
    let low = n % 2 ^ i in
    and_mask (n * 256 % 2 ^ (i + 8) / 2 ^ k) 8
    ∙ ap (λ m. m / 2 ^ k % 256) (shl_mod n i 8)
    ∙ ap (λ m. m / 2 ^ k % 256) (ap (λ m. low * 2 ^ m) up ∙ ap (λ m. low * m) (pow-add 2 (8 - k) k) ∙ sym (mul_assoc low (2 ^ (8 - k)) (2 ^ k)))
    ∙ ap (λ m. m % 256) (shl-shr (low * 2 ^ (8 - k)) k)
    ∙ ap (λ m. low * 2 ^ (8 - k) % 2 ^ m) e ∙ shl_mod low k (8 - k)
    ∙ ap (λ m. m * 2 ^ (8 - k)) (ap (λ m. n % 2 ^ m % 2 ^ k) j ∙ mod-mod-pow n (i - k) k)

-- and how many there are
pub few_bits : (k : ℕ) → k ≤ 8 → bit_and k 15 ≡ k
few_bits k few = and_mask k 4 ∙ mod-eq_of_lt (omega (arith, few))

-- behind i zeros, k bits go through as alone
behind_zeros : (i k j : ℕ) (p : List Bool) (x : ℕ) → x < 2 ^ k
    → divide p (low_bits (i + (k + j)) (x * 2 ^ i)) (zeros (i + k)) ≡ divide p (low_bits (i + (k + j)) x) (zeros k)
behind_zeros i k j p x small =
    let y = low_bits (k + j) x in
    let below : x < 2 ^ (k + j) = omega (arith, small, pow_mono {i = k} {j = k + j} (omega arith)) in
    let lead : low_bits (i + (k + j)) (x * 2 ^ i) ≡ zeros i ++ y =
    low_bits-append i (k + j) (x * 2 ^ i)
    ∙ ap₂ ◌++◌ (sym (low_bits-mod i (x * 2 ^ i)) ∙ ap (low_bits i) (mul-mod_left x (2 ^ i)) ∙ low_bits-zero i) (ap (low_bits (k + j)) (shl-shr x i)) in
    let trail : low_bits (i + (k + j)) x ≡ y ++ zeros i =
    ap (λ w. low_bits w x) (add_comm i (k + j)) ∙ low_bits-append (k + j) i x ∙ ap (λ z. y ++ z) (ap (low_bits i) (div-eq_of_lt below) ∙ low_bits-zero i) in
    ap (λ z. divide p z (zeros (i + k))) lead
    ∙ sym (enter-zeros p (zeros i ++ y) (i + k))
    ∙ ap (enter p (zeros i ++ y)) (sym (zeros-append i k))
    ∙ enter-append p (zeros i ++ y) (zeros i) (zeros k)
    ∙ ap (λ r. enter p r (zeros k)) (enter_self p (zeros i) y ∙ ap (λ n. y ++ zeros n) (length-zeros i) ∙ sym trail)
    ∙ enter-zeros p (low_bits (i + (k + j)) x) k

-- ---- through the table

module _ (j : ℕ) (p : List Bool) (wide : length p ≡ 8 + j) (register byte k : ℕ) (fits : register < 2 ^ (8 + j)) (few : k ≤ 8) where
  abbrev x : ℕ
  x = bit_xor register byte % 2 ^ k

  abbrev at : ℕ
  at = x * 2 ^ (8 - k)

  at_small : at < 256
  at_small =
      let e : k + (8 - k) ≡ 8 = omega arith in
      subst (λ (n : ℕ). at < 2 ^ n) e (subst (λ (n : ℕ). n < 2 ^ (k + (8 - k))) (shl_mod (bit_xor register byte) k (8 - k)) (mod-lt (bit_xor register byte * 2 ^ (8 - k)) (pow_pos (k + (8 - k)))))

  entry_at : get_or (table_of (8 + j) p) at 0 ≡ entry (8 + j) p at
  entry_at = table_at (8 + j) p wide at at_small

  at_alone : divide p (low_bits (8 + j) at) (zeros 8) ≡ divide p (low_bits (8 + j) x) (zeros k)
  at_alone =
      let w : 8 - k + (k + j) ≡ 8 + j = omega arith in
      let n : 8 - k + k ≡ 8 = omega arith in
      subst (λ (n : ℕ). divide p (low_bits (8 + j) at) (zeros n) ≡ divide p (low_bits (8 + j) x) (zeros k)) n
      (subst (λ (w : ℕ). divide p (low_bits w at) (zeros (8 - k + k)) ≡ divide p (low_bits w x) (zeros k)) w
      (behind_zeros (8 - k) k j p x (mod-lt (bit_xor register byte) (pow_pos k))))

  entered_low : enter p (low_bits (8 + j) register) (low_bits k byte)
      ≡ xor_bits (divide p (low_bits (8 + j) x) (zeros k)) (low_bits (8 + j) (register / 2 ^ k))
  entered_low =
      let w : k + (8 - k + j) ≡ 8 + j = omega arith in
      subst
      (λ (w : ℕ). enter p (low_bits w register) (low_bits k byte)
      ≡ xor_bits (divide p (low_bits w x) (zeros k)) (low_bits w (register / 2 ^ k))) w
      (enter_low k (8 - k + j) p (wide ∙ sym w) register byte (subst (λ (w : ℕ). register < 2 ^ w) (sym w) fits))

  pub enter_bits_by_table_lt : enter_bits_by_table (table_of (8 + j) p) register byte k < 2 ^ (8 + j)
  unfolding enter_bits_by_table
  enter_bits_by_table_lt =
      xor_lt (8 + j) (get_or (table_of (8 + j) p) at 0) (register / 2 ^ k) (rw entry_at (entry_lt (8 + j) p wide at))
      (omega (arith, shr_le register k))

  entered_bits : low_bits (8 + j) (enter_bits_by_table (table_of (8 + j) p) register byte k) ≡ enter p (low_bits (8 + j) register) (low_bits k byte)
  unfolding enter_bits_by_table
  entered_bits =
      low_bits-xor (8 + j) (get_or (table_of (8 + j) p) at 0) (register / 2 ^ k)
      ∙ ap (λ z. xor_bits z (low_bits (8 + j) (register / 2 ^ k))) (ap (low_bits (8 + j)) entry_at ∙ entry-bits (8 + j) p wide at ∙ at_alone)
      ∙ sym entered_low

  -- and without a table: as code has them go through a register of their own, with a byte of zeros
  pub bits_through : (alone : ℕ) → low_bits (8 + j) alone ≡ enter p (low_bits (8 + j) at) (low_bits 8 0)
      → low_bits (8 + j) (bit_xor alone (register / 2 ^ k)) ≡ enter p (low_bits (8 + j) register) (low_bits k byte)
  bits_through alone e =
      low_bits-xor (8 + j) alone (register / 2 ^ k)
      ∙ ap (λ z. xor_bits z (low_bits (8 + j) (register / 2 ^ k)))
      (e ∙ ap (enter p (low_bits (8 + j) at)) (low_bits-zero 8) ∙ enter-zeros p (low_bits (8 + j) at) 8 ∙ at_alone)
      ∙ sym entered_low

pub table_enters_bits : TableEntersBits
table_enters_bits j p wide register byte k fits few = entered_bits j p wide register byte k fits few

-- ---- a string

-- what is left over behind the whole bytes is fewer than eight bits
rest_is : (s : List Bool) → low_bits (length s % 8) (value (drop (8 * (length s / 8)) s)) ≡ drop (8 * (length s / 8)) s
rest_is s =
    let r = drop (8 * (length s / 8)) s in
    let n : length r ≡ length s % 8 = omega (arith, length-drop (8 * (length s / 8)) s) in
    ap (λ n. low_bits n (value r)) (sym n) ∙ low_bits-value r

pub table_enters_string : TableEntersString
unfolding enter_string_by_table
table_enters_string j p wide register s fits =
    let n = length s / 8 in
    let t = table_of (8 + j) p in
    let whole = pack_into n s in
    let r = drop (8 * n) s in
    table_enters_bits j p wide (enter_all_by_table t register whole) (value r) (length s % 8)
    (enter_all_by_table_lt j p wide register whole fits) (omega arith)
    ∙ ap₂ (enter p) (table_enters j p wide register whole fits) (rest_is s)
    ∙ sym (enter-append p (low_bits (8 + j) register) (bits_of whole) r)
    ∙ ap (enter p (low_bits (8 + j) register)) (ap (λ z. z ++ r) (bits_of-pack_into n s (omega arith)) ∙ take-append-drop (8 * n) s)

pub enter_string_by_table_lt : (j : ℕ) (p : List Bool) → length p ≡ 8 + j → (register : ℕ) (s : List Bool) → register < 2 ^ (8 + j)
    → enter_string_by_table (table_of (8 + j) p) register s < 2 ^ (8 + j)
unfolding enter_string_by_table
enter_string_by_table_lt j p wide register s fits =
    let n = length s / 8 in
    let t = table_of (8 + j) p in
    enter_bits_by_table_lt j p wide (enter_all_by_table t register (pack_into n s)) (value (drop (8 * n) s)) (length s % 8)
    (enter_all_by_table_lt j p wide register (pack_into n s) fits) (omega arith)
