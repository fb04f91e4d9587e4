-- What is over the degree, taken back: it enters an empty register. Assumes nothing.
use mathlib.Core.Path.{◌≡◌, refl, sym, ap, ap₂, ◌∙◌}
use Prim.Native.Nat.{ℕ, ◌+◌, ◌-◌, ◌*◌, ◌%◌, ◌^◌, ◌<◌}
use native.Mathlib.Omega.{arith}
use native.Mathlib.Nat.{mul-mod_left}
use mathlib.Core.Bool.{Bool, true}
use mathlib.Core.List.{List, [], ◌∷◌, ◌++◌}
use lib.ListN.{length, length-append, length-replicate}
use lib.Pow.{shl-shr}
use Rattle.bits.specs.Strings.{xor_bits, zeros}
use Rattle.bits.specs.Bytes.{low_bits}
use Rattle.bits.proofs.Strings.{length-zeros, zeros-append, xor_bits_comm, xor_bits-zeros, xor_bits-append}
use Rattle.bits.proofs.Bytes.{low_bits-append, low_bits-mod, low_bits-zero}
use Rattle.division.specs.Division.{remainder, power}
use Rattle.division.proofs.Linear.{remainder-xor}
use Rattle.division.proofs.Zeros.{leading, remainder-full}
use Rattle.division.proofs.Quotient.{power-width}
use Rattle.registers.specs.Register.{enter, entered}
use Rattle.registers.proofs.Enter.{enter_is_formula}
use Rattle.registers.proofs.Entered.{entered_leading}
use Rattle.polynomials.specs.Product.{monomial, product, spread}
use Rattle.polynomials.proofs.Coefficients.{monomial_below}
use Rattle.polynomials.proofs.Squares.{square_spread}

module _ (p : List Bool) (pos : 0 < length p) where
  -- an empty register leaves the remainder of x^w times what enters
  entered-remainder : (m : List Bool) → entered p m ≡ remainder p (m ++ zeros (length p))
  entered-remainder m =
      let w = length p in
      let l : length (m ++ zeros w) ≡ w + length m = simp (length-append, length-replicate) (omega arith) in
      enter_is_formula w p (zeros w) m pos refl (length-zeros w)
      ∙ ap (remainder p)
      (ap (xor_bits (m ++ zeros w)) (zeros-append w (length m)) ∙ xor_bits_comm (m ++ zeros w) (zeros (w + length m))
      ∙ xor_bits-zeros (w + length m) (m ++ zeros w) l)

  -- x^w leaves the generator's lower coefficients
  pub generator_entered : {w : ℕ} {r : List Bool} → length p ≡ w → r ≡ monomial w 0 → entered p r ≡ p
  unfolding power
  generator_entered l e =
      ap (entered p) (e ∙ ap (λ n. monomial n 0) (sym l) ∙ monomial_below (length p) 0 pos) ∙ entered_leading p (length p - 1) (true ∷ []) ∙ entered-remainder (true ∷ []) ∙ power-width p

  -- a string of 2w coefficients: the upper half enters, the lower is added
  halves : (upper lower : List Bool) → length upper ≡ length p → length lower ≡ length p
      → remainder p (upper ++ lower) ≡ xor_bits (entered p upper) lower
  halves upper lower u l =
      let w = length p in
      let z = zeros w in
      let e : xor_bits (upper ++ z) (zeros (length upper) ++ lower) ≡ upper ++ lower =
      xor_bits-append upper (zeros (length upper)) z lower (sym (length-zeros (length upper)))
      ∙ ap₂ ◌++◌ (xor_bits_comm upper (zeros (length upper)) ∙ xor_bits-zeros (length upper) upper refl) (xor_bits-zeros w lower l) in
      ap (remainder p) (sym e)
      ∙ remainder-xor p (upper ++ z) (zeros (length upper) ++ lower) (simp (length-append, length-replicate) (omega arith))
      ∙ ap₂ xor_bits (sym (entered-remainder upper)) (leading p (length upper) lower ∙ remainder-full p lower l)

  pub squared_halves : (a upper lower : List Bool) {moved sum : List Bool} → length upper ≡ length p → length lower ≡ length p → upper ++ lower ≡ spread a
      → moved ≡ entered p upper → sum ≡ xor_bits moved lower → sum ≡ product p a a
  squared_halves a upper lower u l e f g =
      g ∙ ap (λ z. xor_bits z lower) f ∙ sym (halves upper lower u l) ∙ ap (remainder p) e ∙ sym (square_spread p a)

-- a number moved up to the end of a word, as code has it
pub moved_word : (p : List Bool) (j k n : ℕ) (r start : List Bool) → start ≡ zeros (length p)
    → r ≡ enter p start (low_bits (j + k) ((n * 2 ^ j) % 2 ^ (j + k))) → r ≡ entered p (low_bits k n)
moved_word p j k n r start s e =
    e ∙ ap₂ (enter p) s
    (low_bits-mod (j + k) (n * 2 ^ j) ∙ low_bits-append j k (n * 2 ^ j)
    ∙ ap₂ ◌++◌ (sym (low_bits-mod j (n * 2 ^ j)) ∙ ap (low_bits j) (mul-mod_left n (2 ^ j)) ∙ low_bits-zero j) (ap (low_bits k) (shl-shr n j)))
    ∙ entered_leading p j (low_bits k n)
