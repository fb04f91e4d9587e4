-- Laws of a register that began empty: sums and leading zeros, and a register as what is added to the first bits. Assumes nothing.
use mathlib.Core.Path.{◌≡◌, refl, sym, ap, ap₂, ◌∙◌}
use Prim.Native.Nat.{ℕ, ◌+◌}
use native.Mathlib.Omega.{arith}
use mathlib.Core.Bool.{Bool}
use mathlib.Core.List.{List, [], ◌++◌, append-nil}
use lib.ListN.{length, length-append, length-replicate}
use Rattle.bits.specs.Strings.{xor_bits, zeros}
use Rattle.bits.proofs.Strings.{length-zeros, xor_bits_comm, xor_bits-zeros, zeros-append, equal_of_xor}
use Rattle.division.proofs.Zeros.{divide-zeros}
use Rattle.registers.specs.Register.{enter, entered}
use Rattle.registers.proofs.Enter.{length-enter, enter-append, enter_linear, enter-zeros}
use Rattle.registers.proofs.Table.{enter_self}

pub zeros_twice : (w : ℕ) → xor_bits (zeros w) (zeros w) ≡ zeros w
zeros_twice w = xor_bits-zeros w (zeros w) (length-zeros w)

module _ (p : List Bool) where
  pub length-entered : (m : List Bool) → length (entered p m) ≡ length p
  length-entered m = length-enter p (zeros (length p)) m (length-zeros (length p))

  pub entered-xor : (a b : List Bool) → length a ≡ length b → entered p (xor_bits a b) ≡ xor_bits (entered p a) (entered p b)
  entered-xor a b h =
      let z = zeros (length p) in
      let l = length-zeros (length p) in
      ap (λ r. enter p r (xor_bits a b)) (sym (zeros_twice (length p))) ∙ enter_linear p z z a b l l h

  pub entered-zeros : (n : ℕ) → entered p (zeros n) ≡ zeros (length p)
  entered-zeros n = enter-zeros p (zeros (length p)) n ∙ divide-zeros p (length p) n

  pub entered_leading : (n : ℕ) (a : List Bool) → entered p (zeros n ++ a) ≡ entered p a
  entered_leading n a = enter-append p (zeros (length p)) (zeros n) a ∙ ap (λ r. enter p r a) (entered-zeros n)

  -- a register and bits, apart
  pub enter-apart : (r m : List Bool) → length r ≡ length p → enter p r m ≡ xor_bits (enter p r (zeros (length m))) (entered p m)
  enter-apart r m h =
      let n = length m in
      ap₂ (enter p) (sym (xor_bits_comm r (zeros (length p)) ∙ xor_bits-zeros (length p) r h)) (sym (xor_bits-zeros n m refl))
      ∙ enter_linear p r (zeros (length p)) (zeros n) m h (length-zeros (length p)) (length-zeros n)

  -- ---- where it begins: a register is what is yet to be added to the first bits

  up : (r : List Bool) → length r ≡ length p → enter p r (zeros (length p)) ≡ entered p r
  up r h =
      let z = zeros (length p) in
      let l = length-zeros (length p) in
      equal_of_xor (enter p r z) (entered p r) (length-enter p r z h ∙ sym (length-entered r))
      (sym (enter_linear p r z z r h l (l ∙ sym h))
      ∙ ap₂ (enter p) (xor_bits_comm r z ∙ xor_bits-zeros (length p) r h) (xor_bits-zeros (length p) r h)
      ∙ ap (λ x. enter p x r) (sym (append-nil r)) ∙ enter_self p r [] ∙ ap zeros (h ∙ sym (length-entered r)))

  pub begins : (r m rest : List Bool) (k : ℕ) → length r ≡ length p → length m ≡ length p + k
      → enter p r (m ++ rest) ≡ entered p (xor_bits (r ++ zeros k) m ++ rest)
  begins r m rest k h l =
      let z = zeros (length p) in
      let lr : length (r ++ zeros k) ≡ length m = simp (length-append, length-replicate) (omega arith) in
      let e : enter p r (zeros (length m)) ≡ entered p (r ++ zeros k) =
      ap (λ n. enter p r (zeros n)) l ∙ ap (enter p r) (sym (zeros-append (length p) k)) ∙ enter-append p r z (zeros k)
      ∙ ap (λ x. enter p x (zeros k)) (up r h) ∙ sym (enter-append p z r (zeros k)) in
      enter-append p r m rest
      ∙ ap (λ x. enter p x rest) (enter-apart r m h ∙ ap (λ x. xor_bits x (entered p m)) e ∙ sym (entered-xor (r ++ zeros k) m lr))
      ∙ sym (enter-append p z (xor_bits (r ++ zeros k) m) rest)
