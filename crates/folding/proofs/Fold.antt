-- Folding by a multiple of the generator that has few powers: the law, and a turn of a loop over words. Assumes nothing.
use mathlib.Core.Path.{◌≡◌, refl, sym, ap, ap₂, ◌∙◌}
use Prim.Native.Nat.{ℕ, suc, ◌+◌, ◌-◌, ◌≤◌}
use native.Mathlib.Nat.{add_comm}
use native.Mathlib.Omega.{arith}
use mathlib.Core.Bool.{Bool, true, false}
use mathlib.Core.List.{List, [], ◌∷◌, ◌++◌, append_assoc}
use lib.ListN.{length, length-append, length-replicate}
use Rattle.bits.specs.Strings.{xor_bits, zeros}
use Rattle.bits.specs.Differences.{Each}
use Rattle.bits.proofs.Strings.{xor-false, length-zeros, length-xor, xor_bits_four, xor_bits-zeros, xor_bits-append, zeros-append}
use Rattle.registers.specs.Register.{enter, entered}
use Rattle.registers.proofs.Entered.{zeros_twice, length-entered, entered-xor, entered-zeros, entered_leading, enter-apart}
use Rattle.registers.proofs.Enter.{enter-append, enter_linear}
use Rattle.folding.specs.Fold.{spread}

-- ---- sums over a list of powers

abbrev pub sums : ℕ → (ℕ → List Bool) → List ℕ → List Bool
sums w f [] = zeros w
sums w f (e ∷ es) = xor_bits (f e) (sums w f es)

sums_eq : (w : ℕ) (f g : ℕ → List Bool) (es : List ℕ) → ((e : ℕ) → f e ≡ g e) → sums w f es ≡ sums w g es
sums_eq w f g [] h = refl
sums_eq w f g (e ∷ es) h = ap₂ xor_bits (h e) (sums_eq w f g es h)

sums-xor : (w : ℕ) (f g : ℕ → List Bool) (es : List ℕ) → xor_bits (sums w f es) (sums w g es) ≡ sums w (λ e. xor_bits (f e) (g e)) es
sums-xor w f g [] = zeros_twice w
sums-xor w f g (e ∷ es) =
    xor_bits_four (f e) (sums w f es) (g e) (sums w g es) ∙ ap (λ z. xor_bits (xor_bits (f e) (g e)) z) (sums-xor w f g es)

length-sums : (w : ℕ) (f : ℕ → List Bool) (es : List ℕ) → ((e : ℕ) → length (f e) ≡ w) → length (sums w f es) ≡ w
length-sums w f [] h = length-zeros w
length-sums w f (e ∷ es) h =
    length-xor (f e) (sums w f es) (h e ∙ sym (length-sums w f es h)) ∙ length-sums w f es h

module _ (p : List Bool) where
  sums-enter : (f : ℕ → List Bool) (es : List ℕ) (j : ℕ) → ((e : ℕ) → length (f e) ≡ length p)
      → enter p (sums (length p) f es) (zeros j) ≡ sums (length p) (λ e. enter p (f e) (zeros j)) es
  sums-enter f [] j h = entered-zeros p j
  sums-enter f (e ∷ es) j h =
      ap (enter p (xor_bits (f e) (sums (length p) f es))) (sym (zeros_twice j))
      ∙ enter_linear p (f e) (sums (length p) f es) (zeros j) (zeros j) (h e) (length-sums (length p) f es h) refl
      ∙ ap (λ z. xor_bits (enter p (f e) (zeros j)) z) (sums-enter f es j h)

  -- ---- x^n is the sum of the powers es: at 1, and so at every string

  abbrev pub Powers : ℕ → List ℕ → List Bool → Type 0
  Powers n es t = entered p (t ++ zeros n) ≡ sums (length p) (λ e. entered p (t ++ zeros e)) es

  module _ (n : ℕ) (es : List ℕ) (one : Powers n es (true ∷ [])) where
    -- a bit, brought up j places
    bit_up : (b : Bool) (j k : ℕ) → entered p ((b ∷ zeros j) ++ zeros k) ≡ enter p (entered p (b ∷ zeros k)) (zeros j)
    bit_up b j k =
        ap (λ z. entered p (b ∷ z)) (zeros-append j k ∙ ap zeros (add_comm j k) ∙ sym (zeros-append k j))
        ∙ enter-append p (zeros (length p)) (b ∷ zeros k) (zeros j)

    bit : (b : Bool) (j : ℕ) → Powers n es (b ∷ zeros j)
    bit true j =
        bit_up true j n ∙ ap (λ r. enter p r (zeros j)) one
        ∙ sums-enter (λ e. entered p (true ∷ zeros e)) es j (λ e. length-entered p (true ∷ zeros e))
        ∙ sums_eq (length p) (λ e. enter p (entered p (true ∷ zeros e)) (zeros j)) (λ e. entered p ((true ∷ zeros j) ++ zeros e)) es (λ e. sym (bit_up true j e))
    bit false j =
        none n ∙ sym (nothing es)
        ∙ sums_eq (length p) (λ e. zeros (length p)) (λ e. entered p ((false ∷ zeros j) ++ zeros e)) es (λ e. sym (none e))
      where
        none : (k : ℕ) → entered p ((false ∷ zeros j) ++ zeros k) ≡ zeros (length p)
        none k = ap (entered p) (zeros-append (suc j) k) ∙ entered-zeros p (suc j + k)

        nothing : (l : List ℕ) → sums (length p) (λ e. zeros (length p)) l ≡ zeros (length p)
        nothing [] = refl
        nothing (e ∷ l) = ap (xor_bits (zeros (length p))) (nothing l) ∙ zeros_twice (length p)

    -- the first bit and the others, apart
    first-apart : (b : Bool) (t : List Bool) (k : ℕ)
        → entered p ((b ∷ t) ++ zeros k) ≡ xor_bits (entered p ((b ∷ zeros (length t)) ++ zeros k)) (entered p (t ++ zeros k))
    first-apart b t k =
        let j = length t in
        let e : (b ∷ t) ++ zeros k ≡ xor_bits ((b ∷ zeros j) ++ zeros k) (false ∷ (t ++ zeros k)) =
        ap₂ (λ x y. x ∷ y) (sym (xor-false b)) (sym (xor_bits-append (zeros j) t (zeros k) (zeros k) (length-zeros j) ∙ ap₂ ◌++◌ (xor_bits-zeros j t refl) (zeros_twice k))) in
        ap (entered p) e
        ∙ entered-xor p ((b ∷ zeros j) ++ zeros k) (false ∷ (t ++ zeros k)) (simp (length-append, length-replicate) (omega arith))
        ∙ ap (λ z. xor_bits (entered p ((b ∷ zeros j) ++ zeros k)) z) (entered_leading p 1 (t ++ zeros k))

    -- THE LAW
    pub powers : (t : List Bool) → Powers n es t
    powers [] = entered-zeros p n ∙ sym (nothing es)
      where
        nothing : (l : List ℕ) → sums (length p) (λ e. entered p (zeros e)) l ≡ zeros (length p)
        nothing [] = refl
        nothing (e ∷ l) = ap₂ xor_bits (entered-zeros p e) (nothing l) ∙ zeros_twice (length p)
    powers (b ∷ t) =
        let f : ℕ → List Bool = λ e. entered p ((b ∷ zeros (length t)) ++ zeros e) in
        let g : ℕ → List Bool = λ e. entered p (t ++ zeros e) in
        first-apart b t n ∙ ap₂ xor_bits (bit b (length t)) (powers t)
        ∙ sums-xor (length p) f g es
        ∙ sums_eq (length p) (λ e. xor_bits (f e) (g e)) (λ e. entered p ((b ∷ t) ++ zeros e)) es (λ e. sym (first-apart b t e))

  -- ---- the sum as a string

  pub length-spread : (n : ℕ) (es : List ℕ) (t : List Bool) → length t ≡ 64 → Each (λ e. e + 64 ≤ n) es → length (spread n es t) ≡ n
  unfolding spread
  length-spread n [] t w h = length-zeros n
  length-spread n (e ∷ es) t w h =
      let a = zeros (n - e - 64) ++ (t ++ zeros e) in
      let l : e + 64 ≤ n = h.0 in
      let la : length a ≡ n = simp (length-append, length-replicate) (omega arith) in
      let ls = length-spread n es t w h.1 in
      length-xor a (spread n es t) (la ∙ sym ls) ∙ ls

  entered-spread : (n : ℕ) (es : List ℕ) (t : List Bool) → length t ≡ 64 → Each (λ e. e + 64 ≤ n) es
      → entered p (spread n es t) ≡ sums (length p) (λ e. entered p (t ++ zeros e)) es
  unfolding spread
  entered-spread n [] t w h = entered-zeros p n
  entered-spread n (e ∷ es) t w h =
      let a = zeros (n - e - 64) ++ (t ++ zeros e) in
      let l : e + 64 ≤ n = h.0 in
      let la : length a ≡ n = simp (length-append, length-replicate) (omega arith) in
      entered-xor p a (spread n es t) (la ∙ sym (length-spread n es t w h.1))
      ∙ ap₂ xor_bits (entered_leading p (n - e - 64) (t ++ zeros e)) (entered-spread n es t w h.1)

  -- bits at the front are taken away and added to the n behind them
  pub folds : (n : ℕ) (es : List ℕ) → Powers n es (true ∷ []) → (t y rest : List Bool) → length t ≡ 64 → Each (λ e. e + 64 ≤ n) es → length y ≡ n
      → entered p (t ++ (y ++ rest)) ≡ entered p (xor_bits (spread n es t) y ++ rest)
  folds n es one t y rest w h l =
      let z = zeros (length p) in
      let s = spread n es t in
      let here : entered p (t ++ y) ≡ entered p (xor_bits s y) =
      enter-append p z t y ∙ enter-apart p (entered p t) y (length-entered p t)
      ∙ ap (λ k. xor_bits (enter p (entered p t) (zeros k)) (entered p y)) l
      ∙ ap (λ r. xor_bits r (entered p y)) (sym (enter-append p z t (zeros n)) ∙ powers n es one t ∙ sym (entered-spread n es t w h))
      ∙ sym (entered-xor p s y (length-spread n es t w h ∙ sym l)) in
      ap (entered p) (sym (append_assoc t y rest)) ∙ enter-append p z (t ++ y) rest
      ∙ ap (λ r. enter p r rest) here ∙ sym (enter-append p z (xor_bits s y) rest)
