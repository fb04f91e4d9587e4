-- Two contents bit by bit: the whole bytes are the same and the low bits of the bytes behind them, just where the bits are.
-- Assumes nothing.
use mathlib.Core.Path.{◌≡◌, refl, sym, ap, ap₂, ◌∙◌}
use mathlib.Core.Bool.{Bool, true, false}
use mathlib.Core.List.{List, [], ◌∷◌, ◌++◌}
use Prim.Native.Nat.{ℕ, zero, suc, ◌*◌, ◌/◌, ◌%◌, ◌^◌, ◌≤◌}
use native.Mathlib.Omega.{arith}
use borrow.Author.Tests.{eqb-true, eqb-false}
use lib.Dec.{eqb}
use lib.ListN.{length, take, get_or, length-take}
use Rattle.std.specs.Bool.{Decides}
use Rattle.bits.specs.Bytes.{low_bits, value, bits_of, bytes_for, Bytes}
use Rattle.bits.proofs.Strings.{append_split}
use Rattle.bits.proofs.Bytes.{low_bits-mod, value-low_bits, length-bits_of, bits_of_injective}
use Rattle.frame.proofs.Told.{told_parts, told_whole}
use Rattle.frame_roundtrip.specs.Returns.{ContentOf}

-- the low bits of two bytes
pub low_same : (k a b : ℕ) → a % 2 ^ k ≡ b % 2 ^ k → low_bits k a ≡ low_bits k b
low_same k a b e = sym (low_bits-mod k a) ∙ ap (low_bits k) e ∙ low_bits-mod k b

pub same_low : (k a b : ℕ) → low_bits k a ≡ low_bits k b → a % 2 ^ k ≡ b % 2 ^ k
same_low k a b e = sym (value-low_bits k a) ∙ ap value e ∙ value-low_bits k b

bytes_take : (n : ℕ) (x : List ℕ) → Bytes x → Bytes (take n x)
bytes_take zero x b = tt
bytes_take (suc n) [] b = tt
bytes_take (suc n) (c ∷ x) b = (b.0, bytes_take n x b.1)

-- the first bits of bytes: of whole ones, and the low bits of the one behind them
split : (bits : ℕ) (x : List ℕ) → bits ≤ 8 * length x
    → take bits (bits_of x) ≡ bits_of (take (bits / 8) x) ++ low_bits (bits % 8) (get_or x (bits / 8) 0)
split bits x h = go (eqb (bits % 8) 0) refl
  where
    go : (t : Bool) → eqb (bits % 8) 0 ≡ t → take bits (bits_of x) ≡ bits_of (take (bits / 8) x) ++ low_bits (bits % 8) (get_or x (bits / 8) 0)
    go true e = sym (told_whole x bits (get_or x (bits / 8) 0) (eqb-true (bits % 8) 0 e))
    go false e = sym (told_parts x bits (get_or x (bits / 8) 0) h (eqb-false (bits % 8) 0 e) refl)

module _ (bits read : ℕ) (x out : List ℕ) (bx : Bytes x) (bo : Bytes out) (lx : bits ≤ 8 * length x) (lo : bytes_for bits ≤ length out) where
  abbrev i : ℕ
  i = bits / 8

  abbrev k : ℕ
  k = bits % 8

  abbrev LastSame : Type 0
  LastSame = low_bits k (get_or out i 0) ≡ low_bits k (get_or x i 0)

  enough : bits ≤ 8 * length out
  enough = omega arith

  parts : take bits (bits_of out) ≡ take bits (bits_of x) → (take i out ≡ take i x) × LastSame
  parts e =
      let n : length (take i out) ≡ length (take i x) = omega (arith, length-take i x, length-take i out, enough) in
      let l : length (bits_of (take i out)) ≡ length (bits_of (take i x)) = omega (arith, n, length-bits_of (take i out), length-bits_of (take i x)) in
      let p = append_split (bits_of (take i out)) (bits_of (take i x)) (low_bits k (get_or out i 0)) (low_bits k (get_or x i 0)) l (sym (split bits out enough) ∙ e ∙ split bits x lx) in
      (bits_of_injective (take i out) (take i x) (bytes_take i out bo) (bytes_take i x bx) n p.0, p.1)

  pub bytes_differ : {same : Bool} → Decides same (take i x ≡ take i out) → same ≡ false → Decides false (ContentOf bits x read out)
  bytes_differ d q = (
    λ e. let z : ◌≡◌ {A = ℕ} 0 1 = cc in absurd (omega arith),
    λ c. let t = d.1 (sym (parts c.bits_read).0) in let z : ◌≡◌ {A = ℕ} 0 1 = cc in absurd (omega arith),
  )

  module _ (counted : read ≡ bits) {same : Bool} (d : Decides same (take i x ≡ take i out)) (q : same ≡ true) where
    joined : LastSame → ContentOf bits x read out
    joined l =
        record {
          as_many = counted;
          bits_read =
              split bits out enough
              ∙ ap₂ (λ a b. bits_of a ++ b) (sym (d.0 q)) l
              ∙ sym (split bits x lx);
        }

    pub no_more : k ≡ 0 → Decides true (ContentOf bits x read out)
    unfolding low_bits
    no_more z = (λ e. joined (ap (λ n. low_bits n (get_or out i 0)) z ∙ sym (ap (λ n. low_bits n (get_or x i 0)) z)), λ c. refl)

    pub last_decides : {last : Bool} → Decides last LastSame → Decides last (ContentOf bits x read out)
    last_decides l = (λ e. joined (l.0 e), λ c. l.1 (parts c.bits_read).1)
