-- The four methods: their widths, what a receiver finds, method 4's formula, and the check that a register holds. Assumes nothing.
use mathlib.Core.Path.{◌≡◌, refl, sym, ap, ap₂, ◌∙◌}
use Prim.Native.Nat.{ℕ, zero, suc, ◌+◌, ◌-◌, ◌/◌, ◌%◌, ◌^◌, ◌<◌}
use native.Mathlib.Nat.{pow-suc}
use native.Mathlib.Omega.{arith}
use mathlib.Core.Bool.{Bool, true}
use mathlib.Core.List.{List, [], ◌∷◌, ◌++◌}
use lib.Dec.{eqb}
use lib.Pow.{pow_pos}
use lib.ListN.{length, length-append, length-replicate}
use Rattle.bits.specs.Strings.{xor_bits, zeros, ones}
use Rattle.bits.specs.Bytes.{low_bits}
use Rattle.bits.proofs.Strings.{xor_bits_comm, xor_bits-zeros, zeros-append}
use Rattle.division.specs.Division.{remainder, constant_term}
use Rattle.division.specs.Generators.{ibm16}
use Rattle.division.proofs.Generators.{ccitt16_generator, ibm16_generator, ieee32_generator, receiver_16, receiver_32}
use Rattle.cyclic.specs.Check.{Parameters, formula, invert_if, check_bits, method3, method4, method5, method6, Constants, Receives}
use Rattle.registers.specs.Register.{enter}
use Rattle.cyclic.specs.Laws.{OfWidth, Receivers, Method4Formula}
use Rattle.registers.proofs.Enter.{enter_is_formula}
use Rattle.cyclic.proofs.Checks.{receiver}

-- ---- widths

pub width_3 : OfWidth 16 method3
unfolding method3
width_3 = record { generator = ccitt16_generator; start-length = refl }

pub width_4 : OfWidth 16 method4
unfolding method4
width_4 = record { generator = ibm16_generator; start-length = refl }

pub width_5 : OfWidth 16 method5
unfolding method5
width_5 = record { generator = ccitt16_generator; start-length = refl }

pub width_6 : OfWidth 32 method6
unfolding method6
width_6 = record { generator = ieee32_generator; start-length = refl }

-- ---- receivers

pub same_residue : (m : Parameters) (w : ℕ) {a b : List Bool} → a ≡ b → Receives m w a → Receives m w b
same_residue m w e r c s h = (λ f. (r c s h).0 (f ∙ sym e), λ g. (r c s h).1 g ∙ e)

pub receivers : Receivers
unfolding method3 method4 method5 method6
receivers =
    record {
      method_3 = same_residue method3 16 receiver_16 (receiver 16 method3 width_3);
      method_4 = receiver 16 method4 width_4;
      method_5 = same_residue method5 16 receiver_16 (receiver 16 method5 width_5);
      method_6 = same_residue method6 32 receiver_32 (receiver 32 method6 width_6);
    }

pub method4-formula : Method4Formula
unfolding method4 check_bits formula ibm16
method4-formula c =
    let n = length c in
    let a = c ++ zeros 16 in
    let l : length a ≡ 16 + n = simp (length-append, length-replicate) (omega arith) in
    ap (remainder ibm16) (xor_bits_comm a (zeros 16 ++ zeros n) ∙ ap (λ z. xor_bits z a) (zeros-append 16 n) ∙ xor_bits-zeros (16 + n) a l)

-- ---- a register that began at the method's start holds its formula

some_width : (p : List Bool) → constant_term p ≡ true → 0 < length p
some_width [] h = absurd (cc)
some_width (x ∷ p) h = omega arith

pub holds_check : (w : ℕ) (m : Parameters) → OfWidth w m → (c start after check : List Bool) → start ≡ m.start → after ≡ enter m.generator start c → check ≡ invert_if m.inverted after
    → check ≡ check_bits m c
unfolding check_bits formula
holds_check w m o c start after check began entered ended =
    let wide = o.generator.width in
    ended
    ∙ ap (invert_if m.inverted)
    (entered ∙ ap (λ r. enter m.generator r c) began
    ∙ enter_is_formula w m.generator m.start c (omega (arith, some_width m.generator o.generator.constant)) wide o.start-length
    ∙ ap (λ n. remainder m.generator (xor_bits (c ++ zeros n) (m.start ++ zeros (length c)))) (sym wide))

-- the same of numbers
pub check_of_lem : (w : ℕ) (m : Parameters) → OfWidth w m → 0 < w → (c : List Bool) (start after check : ℕ) → low_bits w start ≡ m.start
    → low_bits w after ≡ enter m.generator (low_bits w start) c → low_bits w check ≡ invert_if m.inverted (low_bits w after)
    → low_bits w check ≡ check_bits m c
check_of_lem w m o pos c start after check = holds_check w m o c (low_bits w start) (low_bits w after) (low_bits w check)

-- a new register holds the method's start
pub began : {m : Parameters} {register width polynomial start limit : ℕ} → Constants m register width polynomial start limit → low_bits width register ≡ m.start
began {width = width} k = ap (low_bits width) k.register_start ∙ k.start_is

-- ---- the highest number of w bits

pub all_ones : (w : ℕ) → low_bits w (2 ^ w - 1) ≡ ones w
unfolding low_bits
all_ones zero = refl
all_ones (suc w) =
    let odd : (2 ^ suc w - 1) % 2 ≡ 1 = omega (arith, pow-suc 2 w, pow_pos w) in
    let half : (2 ^ suc w - 1) / 2 ≡ 2 ^ w - 1 = omega (arith, pow-suc 2 w, pow_pos w) in
    ap₂ (λ x n. eqb x 1 ∷ low_bits w n) odd half ∙ ap (λ s. true ∷ s) (all_ones w)
