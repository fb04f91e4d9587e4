-- x^(k+1) put for x in a polynomial: where q divides what g becomes, remainders by q take a string and its remainder by g as equal.
-- Assumes nothing.
use mathlib.Core.Path.{◌≡◌, refl, sym, ap, ap₂, ◌∙◌}
use Prim.Native.Nat.{ℕ, zero, suc, ◌+◌, ◌*◌}
use native.Mathlib.Nat.{mul-suc, mul-zero}
use native.Mathlib.Omega.{arith}
use mathlib.Core.Bool.{Bool, true, false, xor}
use mathlib.Core.List.{List, [], ◌∷◌, ◌++◌, append_assoc, append-nil}
use lib.ListN.{length, length-append}
use Rattle.bits.specs.Strings.{xor_bits, zeros}
use Rattle.bits.proofs.Strings.{length-zeros, zeros-append, xor_bits-append, xor_bits_self, xor_bits-nil, equal_of_xor}
use Rattle.division.specs.Division.{step, divide, remainder, Divides, power}
use Rattle.division.proofs.Linear.{length-step, length-remainder, remainder-append, remainder-xor}
use Rattle.division.proofs.Zeros.{leading}
use Rattle.division.proofs.Quotient.{remainder_lead}
use Rattle.division.proofs.Detection.{length-power}

nothing : (a : List Bool) → length a ≡ 0 → a ≡ []
nothing [] h = refl
nothing (x ∷ a) h = absurd (omega arith)

abbrev pub spread_by : ℕ → List Bool → List Bool
spread_by k [] = []
spread_by k (x ∷ a) = zeros k ++ (x ∷ spread_by k a)

module _ (k : ℕ) where
  pub length-spread_by : (a : List Bool) → length (spread_by k a) ≡ suc k * length a
  length-spread_by [] = sym (mul-zero (suc k))
  length-spread_by (x ∷ a) =
      length-append (zeros k) (x ∷ spread_by k a) ∙ omega (arith, length-zeros k, length-spread_by a, mul-suc (suc k) (length a))

  one_length : (a b : List Bool) → length a ≡ length b → length (spread_by k a) ≡ length (spread_by k b)
  one_length a b h = length-spread_by a ∙ ap (λ n. suc k * n) h ∙ sym (length-spread_by b)

  spread_by-append : (a b : List Bool) → spread_by k (a ++ b) ≡ spread_by k a ++ spread_by k b
  spread_by-append [] b = refl
  spread_by-append (x ∷ a) b =
      ap (λ z. zeros k ++ (x ∷ z)) (spread_by-append a b) ∙ sym (append_assoc (zeros k) (x ∷ spread_by k a) (spread_by k b))

  spread_by-xor : (a b : List Bool) → spread_by k (xor_bits a b) ≡ xor_bits (spread_by k a) (spread_by k b)
  spread_by-xor [] b = refl
  spread_by-xor (x ∷ a) [] = sym (xor_bits-nil (zeros k ++ (x ∷ spread_by k a)))
  spread_by-xor (x ∷ a) (y ∷ b) =
      ap₂ (λ u v. u ++ (xor x y ∷ v)) (sym (xor_bits_self (zeros k) ∙ ap zeros (length-zeros k))) (spread_by-xor a b)
      ∙ sym (xor_bits-append (zeros k) (zeros k) (x ∷ spread_by k a) (y ∷ spread_by k b) refl)

  pub spread_by-zeros : (n : ℕ) → spread_by k (zeros n) ≡ zeros (suc k * n)
  spread_by-zeros zero = ap zeros (sym (mul-zero (suc k)))
  spread_by-zeros (suc n) =
      ap (λ z. zeros k ++ (false ∷ z)) (spread_by-zeros n) ∙ zeros-append k (suc (suc k * n))
      ∙ ap zeros {x = k + suc (suc k * n)} {y = suc k * suc n} (omega (arith, mul-suc (suc k) n))

  -- the highest power of g and the rest of it become equal modulo q
  abbrev pub LeadIsRest : List Bool → List Bool → Type 0
  LeadIsRest g q = power q (length (spread_by k g)) ≡ remainder q (spread_by k g)

  pub lead_is_rest : (g q : List Bool) → Divides q (spread_by k (true ∷ g)) → LeadIsRest g q
  lead_is_rest g q d =
      let r = spread_by k g in
      equal_of_xor (power q (length r)) (remainder q r) (length-power q (length r) ∙ sym (length-remainder q r))
      (sym (remainder_lead q r) ∙ sym (leading q k (true ∷ r)) ∙ d ∙ ap zeros (sym (length-remainder q r)))

  module _ (g q : List Bool) (lead : LeadIsRest g q) where
    step_spread : (r : List Bool) (b : Bool) → length r ≡ length g → remainder q (spread_by k (step g r b)) ≡ remainder q (spread_by k (r ++ b ∷ []))
    unfolding power
    step_spread [] true h =
        let e = nothing g (sym h) in
        sym (ap (λ z. remainder q (spread_by k z)) e) ∙ sym lead ∙ ap (λ z. power q (length (spread_by k z))) e ∙ sym (leading q k (true ∷ []))
    step_spread [] false h = sym (leading q 1 []) ∙ sym (leading q k (false ∷ []))
    step_spread (true ∷ r) b h =
        let s = r ++ b ∷ [] in
        let l : length g ≡ length s = sym h ∙ sym (length-append r (b ∷ []) ∙ omega arith) in
        ap (remainder q) (spread_by-xor g s) ∙ remainder-xor q (spread_by k g) (spread_by k s) (one_length g s l)
        ∙ ap (λ z. xor_bits z (remainder q (spread_by k s))) (sym lead ∙ ap (power q) (one_length g s l))
        ∙ sym (remainder_lead q (spread_by k s)) ∙ sym (leading q k (true ∷ spread_by k s))
    step_spread (false ∷ r) b h =
        let s = r ++ b ∷ [] in
        sym (leading q 1 (spread_by k s)) ∙ sym (leading q k (false ∷ spread_by k s))

    divide_spread : (r a : List Bool) → length r ≡ length g → remainder q (spread_by k (divide g r a)) ≡ remainder q (spread_by k (r ++ a))
    unfolding divide
    divide_spread r [] h = ap (λ z. remainder q (spread_by k z)) (sym (append-nil r))
    divide_spread r (b ∷ a) h =
        divide_spread (step g r b) a (length-step g r b h)
        ∙ ap (remainder q) (spread_by-append (step g r b) a) ∙ remainder-append q (spread_by k (step g r b)) (spread_by k a)
        ∙ ap (λ z. divide q z (spread_by k a)) (step_spread r b h)
        ∙ sym (remainder-append q (spread_by k (r ++ b ∷ [])) (spread_by k a)) ∙ ap (remainder q) (sym (spread_by-append (r ++ b ∷ []) a))
        ∙ ap (λ z. remainder q (spread_by k z)) (append_assoc r (b ∷ []) a)

    pub spread_remainder : (a : List Bool) → remainder q (spread_by k (remainder g a)) ≡ remainder q (spread_by k a)
    unfolding remainder
    spread_remainder a =
        divide_spread (zeros (length g)) a (length-zeros (length g))
        ∙ ap (remainder q) (spread_by-append (zeros (length g)) a ∙ ap (λ z. z ++ spread_by k a) (spread_by-zeros (length g)))
        ∙ leading q (suc k * length g) (spread_by k a)
