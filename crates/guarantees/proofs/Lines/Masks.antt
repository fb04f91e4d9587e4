-- Two bit strings that agree outside a mask differ just where their masked bits do: the bridge from lines to checked bits.
-- Assumes nothing.
use mathlib.Core.Path.{◌≡◌, refl, sym, ap, ap₂, ◌∙◌}
use Prim.Native.Nat.{ℕ, zero, suc}
use native.Mathlib.Omega.{arith}
use mathlib.Core.Bool.{Bool, true, false, xor}
use mathlib.Core.List.{List, [], ◌∷◌, ◌++◌, head-eq_of_cons-eq, tail-eq_of_cons-eq}
use lib.ListN.{length}
use Rattle.bits.specs.Strings.{xor_bits, zeros, ones, weight}
use Rattle.bits.specs.Differences.{cons_if, set_from}
use Rattle.bits.proofs.Strings.{xor_self}
use Rattle.bits.proofs.Differences.{length-differing}
use Rattle.guarantees.specs.Lines.{Lines, SameFraming, chosen, DifferWhereChecked, EqualWhereChecked}

-- ---- the bits that a mask selects

abbrev pub keep_if : Bool → Bool → List Bool → List Bool
keep_if true b s = b ∷ s
keep_if false b s = s

abbrev pub select : List Bool → List Bool → List Bool
select [] s = []
select (m ∷ ms) [] = []
select (m ∷ ms) (b ∷ s) = keep_if m b (select ms s)

-- two strings that are equal outside the mask
pub data Agree : List Bool → List Bool → List Bool → Type 0 where
  nothing : Agree [] [] []
  inside : {ms x y : List Bool} (a b : Bool) → Agree ms x y → Agree (true ∷ ms) (a ∷ x) (b ∷ y)
  outside : {ms x y : List Bool} (a : Bool) → Agree ms x y → Agree (false ∷ ms) (a ∷ x) (a ∷ y)

pub agree_append : {ms ns x y u v : List Bool} → Agree ms x y → Agree ns u v → Agree (ms ++ ns) (x ++ u) (y ++ v)
agree_append nothing h = h
agree_append (inside a b g) h = inside a b (agree_append g h)
agree_append (outside a g) h = outside a (agree_append g h)

pub agree_outside : (n : ℕ) (x : List Bool) → length x ≡ n → Agree (zeros n) x x
agree_outside zero [] e = nothing
agree_outside zero (a ∷ x) e = absurd (omega arith)
agree_outside (suc n) [] e = absurd (omega arith)
agree_outside (suc n) (a ∷ x) e = outside a (agree_outside n x (omega arith))

pub agree_inside : (n : ℕ) (x y : List Bool) → length x ≡ n → length y ≡ n → Agree (ones n) x y
agree_inside zero [] [] e f = nothing
agree_inside zero [] (b ∷ y) e f = absurd (omega arith)
agree_inside zero (a ∷ x) y e f = absurd (omega arith)
agree_inside (suc n) [] y e f = absurd (omega arith)
agree_inside (suc n) (a ∷ x) [] e f = absurd (omega arith)
agree_inside (suc n) (a ∷ x) (b ∷ y) e f = inside a b (agree_inside n x y (omega arith) (omega arith))

pub select-append : (ms ns x u : List Bool) → length ms ≡ length x → select (ms ++ ns) (x ++ u) ≡ select ms x ++ select ns u
select-append [] ns [] u e = refl
select-append [] ns (a ∷ x) u e = absurd (omega arith)
select-append (m ∷ ms) ns [] u e = absurd (omega arith)
select-append (true ∷ ms) ns (a ∷ x) u e = ap (λ s. a ∷ s) (select-append ms ns x u (omega arith))
select-append (false ∷ ms) ns (a ∷ x) u e = select-append ms ns x u (omega arith)

pub select_outside : (n : ℕ) (x : List Bool) → select (zeros n) x ≡ []
select_outside zero x = refl
select_outside (suc n) [] = refl
select_outside (suc n) (a ∷ x) = select_outside n x

pub select_inside : (n : ℕ) (x : List Bool) → length x ≡ n → select (ones n) x ≡ x
select_inside zero [] e = refl
select_inside zero (a ∷ x) e = absurd (omega arith)
select_inside (suc n) [] e = absurd (omega arith)
select_inside (suc n) (a ∷ x) e = ap (λ s. a ∷ s) (select_inside n x (omega arith))

-- ---- where two such strings differ

pub differ_inside : {ms x y : List Bool} (n : ℕ) → Agree ms x y → set_from n (xor_bits x y) ≡ chosen (xor_bits (select ms x) (select ms y)) (set_from n ms)
differ_inside n nothing = refl
differ_inside n (inside a b g) = ap (cons_if (xor a b) n) (differ_inside (suc n) g)
differ_inside n (outside {ms} {x} {y} a g) = ap (λ t. cons_if t n (set_from (suc n) (xor_bits x y))) (xor_self a) ∙ differ_inside (suc n) g

weight-cons : (t : Bool) (s u : List Bool) → weight s ≡ weight u → weight (t ∷ s) ≡ weight (t ∷ u)
weight-cons true s u e = ap suc e
weight-cons false s u e = e

pub weight_inside : {ms x y : List Bool} → Agree ms x y → weight (xor_bits x y) ≡ weight (xor_bits (select ms x) (select ms y))
weight_inside nothing = refl
weight_inside (inside {ms} {x} {y} a b g) = weight-cons (xor a b) (xor_bits x y) (xor_bits (select ms x) (select ms y)) (weight_inside g)
weight_inside (outside {ms} {x} {y} a g) = ap (λ t. weight (t ∷ xor_bits x y)) (xor_self a) ∙ weight_inside g

pub equal_inside : {ms x y : List Bool} → Agree ms x y → select ms x ≡ select ms y → x ≡ y
equal_inside nothing e = refl
equal_inside (inside a b g) e = ap₂ ◌∷◌ (head-eq_of_cons-eq e) (equal_inside g (tail-eq_of_cons-eq e))
equal_inside (outside a g) e = ap (λ s. a ∷ s) (equal_inside g e)

pub length_inside : {ms x y : List Bool} → Agree ms x y → length (select ms x) ≡ length (select ms y)
length_inside nothing = refl
length_inside (inside a b g) = ap suc (length_inside g)
length_inside (outside a g) = length_inside g

-- ---- lines

-- two lines that agree outside their checked bits, which the mask selects
pub record Bridged (L : Lines) (A B : L.Line) : Type 0 where
  pub agree : Agree (L.is_checked A) (L.bits A) (L.bits B)
  pub first : select (L.is_checked A) (L.bits A) ≡ L.checked_bits A
  pub second : select (L.is_checked A) (L.bits B) ≡ L.checked_bits B
  pub injective : L.bits A ≡ L.bits B → A ≡ B

-- every two lines of one framing
abbrev pub Bridge : Lines → Type 0
Bridge L = (A B : L.Line) → SameFraming L A B → Bridged L A B

module _ (L : Lines) (bridge : Bridge L) where
  pub differ_where_checked : DifferWhereChecked L
  differ_where_checked A B s =
      let g = bridge A B s in
      let e = ap₂ xor_bits g.first g.second in (
        differ_inside 0 g.agree ∙ ap (λ x. chosen x (set_from 0 (L.is_checked A))) e,
        length-differing (L.bits A) (L.bits B) ∙ weight_inside g.agree ∙ ap weight e
            ∙ sym (length-differing (L.checked_bits A) (L.checked_bits B)),
      )

  pub equal_where_checked : EqualWhereChecked L
  equal_where_checked A B s e = let g = bridge A B s in g.injective (equal_inside g.agree (g.first ∙ e ∙ sym g.second))

  pub length-checked : (A B : L.Line) → SameFraming L A B → length (L.checked_bits A) ≡ length (L.checked_bits B)
  length-checked A B s = let g = bridge A B s in ap length (sym g.first) ∙ length_inside g.agree ∙ ap length g.second
