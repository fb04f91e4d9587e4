-- A byte enters a register at once through the table of the generator, at any width from a byte on. Assumes nothing.
use mathlib.Core.Path.{◌≡◌, refl, sym, ap, ap₂, subst, ◌∙◌}
use Prim.Native.Nat.{ℕ, zero, suc, ◌+◌, ◌/◌, ◌%◌, ◌^◌, ◌<◌}
use native.Mathlib.Nat.{mod-lt, add-zero, zero-add, suc-add, add-suc, add_comm, div-eq_of_lt, not-suc-le-zero, le_of_suc-le-suc}
use native.Mathlib.Omega.{arith}
use mathlib.Core.Bool.{Bool, false}
use mathlib.Core.List.{List, [], ◌∷◌, ◌++◌, append_assoc, append-nil}
use lib.Bits.{bit_xor, xor_lt}
use lib.Dec.{lit<}
use lib.ListN.{length, get_or, length-append, length-replicate}
use lib.Pow.{pow_pos, shr_lt, shr_le}
use Rattle.bits.specs.Strings.{xor_bits, zeros}
use Rattle.bits.specs.Bytes.{low_bits, bits_of}
use Rattle.bits.proofs.Strings.{xor_self, length-zeros, length-xor, xor_bits_comm, xor_bits-zeros, xor_bits_cancel, xor_bits-append}
use Rattle.bits.proofs.Bytes.{length-low_bits, low_bits-append, low_bits-mod, low_bits-zero, low_bits-xor, low_bits-value, value_lt}
use Rattle.division.specs.Division.{step, divide}
use Rattle.division.proofs.Linear.{length-divide}
use Rattle.registers.specs.Register.{enter, tabulate, entry, table_of, enter_by_table, enter_all_by_table}
use Rattle.registers.specs.Laws.{TableEnters}
use Rattle.registers.proofs.Enter.{enter-append, enter_linear, enter-zeros}

-- ---- several bits at once

-- bits that meet themselves in the register take the generator in nowhere: it only moves
pub enter_self : (p m s : List Bool) → enter p (m ++ s) m ≡ s ++ zeros (length m)
unfolding enter
enter_self p [] s = sym (append-nil s)
enter_self p (b ∷ m) s =
    ap (λ z. enter p z m) (ap (λ x. step p (x ∷ (m ++ s)) false) (xor_self b) ∙ append_assoc m s (false ∷ []))
    ∙ enter_self p m (s ++ false ∷ []) ∙ append_assoc s (false ∷ []) (zeros (length m))

-- what the register's first bits and the bits give, and the rest of the register, moved
enter_group : (p lo hi m : List Bool) → length lo ≡ length m → length lo + length hi ≡ length p
    → enter p (lo ++ hi) m ≡ xor_bits (divide p (xor_bits lo m ++ zeros (length hi)) (zeros (length m))) (hi ++ zeros (length m))
enter_group p lo hi m h w =
    let k = length m in
    let lx : length (xor_bits lo m) ≡ k = length-xor lo m h in
    let x = xor_bits lo m ++ zeros (length hi) in
    let e : xor_bits x (m ++ hi) ≡ lo ++ hi =
    xor_bits-append (xor_bits lo m) m (zeros (length hi)) hi lx
    ∙ ap₂ ◌++◌ (xor_bits_comm (xor_bits lo m) m ∙ ap (xor_bits m) (xor_bits_comm lo m) ∙ xor_bits_cancel m lo h) (xor_bits-zeros (length hi) hi refl) in
    ap₂ (enter p) (sym e) (sym (xor_bits-zeros k m refl))
    ∙ enter_linear p x (m ++ hi) (zeros k) m (simp (length-append, length-replicate, lx) (omega arith)) (simp length-append (omega arith)) (length-zeros k)
    ∙ ap₂ xor_bits (enter-zeros p x k) (enter_self p m hi)

-- ---- the low bits of a byte

module _ (k j : ℕ) (p : List Bool) (wide : length p ≡ k + j) where
  -- the register as a number: its k low bits meet the bits, its other bits move down
  pub enter_low : (register byte : ℕ) → register < 2 ^ (k + j)
      → enter p (low_bits (k + j) register) (low_bits k byte)
      ≡ xor_bits (divide p (low_bits (k + j) (bit_xor register byte % 2 ^ k)) (zeros k)) (low_bits (k + j) (register / 2 ^ k))
  enter_low register byte fits =
      let lo = low_bits k register in
      let hi = low_bits j (register / 2 ^ k) in
      let m = low_bits k byte in
      let low : low_bits (k + j) (bit_xor register byte % 2 ^ k) ≡ xor_bits lo m ++ zeros j =
      low_bits-append k j (bit_xor register byte % 2 ^ k)
      ∙ ap₂ ◌++◌ (low_bits-mod k (bit_xor register byte) ∙ low_bits-xor k register byte)
      (ap (low_bits j) (div-eq_of_lt (mod-lt (bit_xor register byte) (pow_pos k))) ∙ low_bits-zero j) in
      let high : low_bits (k + j) (register / 2 ^ k) ≡ hi ++ zeros k =
      ap (λ w. low_bits w (register / 2 ^ k)) (add_comm k j) ∙ low_bits-append j k (register / 2 ^ k)
      ∙ ap (λ z. hi ++ z)
      (ap (low_bits k) (div-eq_of_lt (shr_lt j k (subst (λ (w : ℕ). register < 2 ^ w) (add_comm k j) fits))) ∙ low_bits-zero k) in
      ap (λ z. enter p z m) (low_bits-append k j register)
      ∙ enter_group p lo hi m (length-low_bits k register ∙ sym (length-low_bits k byte))
      (omega (arith, length-low_bits k register, length-low_bits j (register / 2 ^ k), wide))
      ∙ ap₂ (λ a b. xor_bits (divide p (xor_bits lo m ++ zeros a) (zeros b)) (hi ++ zeros b)) (length-low_bits j (register / 2 ^ k)) (length-low_bits k byte)
      ∙ ap₂ (λ a b. xor_bits (divide p a (zeros k)) b) (sym low) (sym high)

-- ---- the table

tabulate_at : (f : ℕ → ℕ) (i n k : ℕ) → k < n → get_or (tabulate f i n) k 0 ≡ f (i + k)
tabulate_at f i zero k h = absurd (not-suc-le-zero h)
tabulate_at f i (suc n) zero h = ap f (sym (add-zero i))
tabulate_at f i (suc n) (suc k) h = tabulate_at f (suc i) n k (le_of_suc-le-suc h) ∙ ap f (suc-add i k ∙ sym (add-suc i k))

module _ (w : ℕ) (p : List Bool) (wide : length p ≡ w) where
  length-entry : (k : ℕ) → length (divide p (low_bits w k) (zeros 8)) ≡ w
  length-entry k = length-divide p (low_bits w k) (zeros 8) (length-low_bits w k ∙ sym wide) ∙ wide

  pub table_at : (k : ℕ) → k < 256 → get_or (table_of w p) k 0 ≡ entry w p k
  unfolding table_of
  table_at k h = tabulate_at (entry w p) 0 256 k h ∙ ap (entry w p) (zero-add k)

  pub entry-bits : (k : ℕ) → low_bits w (entry w p k) ≡ divide p (low_bits w k) (zeros 8)
  entry-bits k =
      ap (λ n. low_bits n (entry w p k)) (sym (length-entry k)) ∙ low_bits-value (divide p (low_bits w k) (zeros 8))

  pub entry_lt : (k : ℕ) → entry w p k < 2 ^ w
  entry_lt k = subst (λ (n : ℕ). entry w p k < 2 ^ n) (length-entry k) (value_lt (divide p (low_bits w k) (zeros 8)))

-- ---- bytes through the table

module _ (j : ℕ) (p : List Bool) (wide : length p ≡ 8 + j) where
  pub byte-entry : (register byte : ℕ) → get_or (table_of (8 + j) p) (bit_xor register byte % 256) 0 ≡ entry (8 + j) p (bit_xor register byte % 256)
  byte-entry register byte = table_at (8 + j) p wide (bit_xor register byte % 256) (mod-lt (bit_xor register byte) (lit< tt))

  pub enter_by_table_lt : (register byte : ℕ) → register < 2 ^ (8 + j) → enter_by_table (table_of (8 + j) p) register byte < 2 ^ (8 + j)
  unfolding enter_by_table
  enter_by_table_lt register byte fits =
      xor_lt (8 + j) (get_or (table_of (8 + j) p) (bit_xor register byte % 256) 0) (register / 256)
      (rw (byte-entry register byte) (entry_lt (8 + j) p wide (bit_xor register byte % 256)))
      (omega (arith, shr_le register 8))

  pub table_enters_byte : (register byte : ℕ) → register < 2 ^ (8 + j)
      → low_bits (8 + j) (enter_by_table (table_of (8 + j) p) register byte) ≡ enter p (low_bits (8 + j) register) (low_bits 8 byte)
  unfolding enter_by_table
  table_enters_byte register byte fits =
      let k = bit_xor register byte % 256 in
      low_bits-xor (8 + j) (get_or (table_of (8 + j) p) k 0) (register / 256)
      ∙ ap (λ z. xor_bits z (low_bits (8 + j) (register / 256))) (ap (low_bits (8 + j)) (byte-entry register byte) ∙ entry-bits (8 + j) p wide k)
      ∙ sym (enter_low 8 j p wide register byte fits)

pub table_enters : TableEnters
unfolding enter_all_by_table bits_of enter
table_enters j p wide register [] fits = refl
table_enters j p wide register (b ∷ bytes) fits =
    table_enters j p wide (enter_by_table (table_of (8 + j) p) register b) bytes (enter_by_table_lt j p wide register b fits)
    ∙ ap (λ r. enter p r (bits_of bytes)) (table_enters_byte j p wide register b fits)
    ∙ sym (enter-append p (low_bits (8 + j) register) (low_bits 8 b) (bits_of bytes))

-- as code has it: a result that was entered through a table that is the generator's
pub entered_by : (j : ℕ) (p : List Bool) → length p ≡ 8 + j → (register : ℕ) (bytes : List ℕ) {table : List ℕ} {r : ℕ} → table ≡ table_of (8 + j) p
    → r ≡ enter_all_by_table table register bytes → register < 2 ^ (8 + j) → low_bits (8 + j) r ≡ enter p (low_bits (8 + j) register) (bits_of bytes)
entered_by j p wide register bytes t e fits =
    ap (low_bits (8 + j)) (e ∙ ap (λ z. enter_all_by_table z register bytes) t) ∙ table_enters j p wide register bytes fits

-- and a register of the generator's width stays one
pub enter_all_by_table_lt : (j : ℕ) (p : List Bool) → length p ≡ 8 + j → (register : ℕ) (bytes : List ℕ) → register < 2 ^ (8 + j)
    → enter_all_by_table (table_of (8 + j) p) register bytes < 2 ^ (8 + j)
unfolding enter_all_by_table
enter_all_by_table_lt j p wide register [] fits = fits
enter_all_by_table_lt j p wide register (b ∷ bytes) fits =
    enter_all_by_table_lt j p wide (enter_by_table (table_of (8 + j) p) register b) bytes (enter_by_table_lt j p wide register b fits)
