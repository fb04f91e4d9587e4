-- The lowest bits of a byte sent: with zeros in place of the other bits the byte is sent as they are, with those zeros behind them.
-- Assumes nothing.
use mathlib.Core.Path.{◌≡◌, refl, sym, ap, ap₂, ◌∙◌, subst}
use mathlib.Core.Bool.{Bool, false}
use mathlib.Core.List.{List, ◌∷◌, ◌++◌}
use Prim.Native.Nat.{ℕ, zero, suc, ◌+◌, ◌*◌, ◌-◌, ◌/◌, ◌%◌, ◌^◌, ◌<◌}
use native.Mathlib.Nat.{mod-lt, div-eq_of_lt, mod-eq_of_lt}
use native.Mathlib.Omega.{arith}
use lib.Dec.{T, eqb, eqb→eq, lit<}
use lib.Bits.{bit_or}
use lib.ListN.{length, length-append}
use lib.Pow.{pow_pos, split, shr_lt}
use Rattle.bits.specs.Strings.{zeros}
use Rattle.bits.specs.Bytes.{low_bits, value}
use Rattle.bits.proofs.Strings.{append_split, length-zeros}
use Rattle.bits.proofs.Bytes.{length-low_bits, low_bits-append, low_bits-mod, low_bits-zero, value-low_bits}
use Rattle.bits.proofs.Tests.{every, every_at}
use Rattle.frame.specs.Stuffing.{is_fifth, run_on, stuff, run_after}
use Rattle.frame.proofs.Stuffing.{stuff-append}
use Rattle.frame.proofs.Words.{joined-or}
use Rattle.zero_insertion.specs.declared.SentByte.{SentByte}
use Rattle.zero_insertion.specs.Insertion.{run_before, Sends}
use Rattle.zero_insertion.proofs.Tests.{of, every_of}

-- ---- zeros take no zero in

stuff-zeros : (run n : ℕ) → stuff run (zeros n) ≡ zeros n
unfolding stuff is_fifth run_on
stuff-zeros run zero = refl
stuff-zeros run (suc n) = ap (λ z. false ∷ z) (stuff-zeros 0 n)

stuff_before-zeros : (run : ℕ) (s : List Bool) (n : ℕ) → stuff run (s ++ zeros n) ≡ stuff run s ++ zeros n
stuff_before-zeros run s n = stuff-append run s (zeros n) ∙ ap (λ z. stuff run s ++ z) (stuff-zeros (run_after run s) n)

-- ---- the last four bits sent have the run, by one test that antt computes

test : ℕ → ℕ → ℕ → ℕ → Bool
test before k run m =
    let s = low_bits k m in
    let t = stuff run s in
    eqb (run_after run s) (run_before ((value t * 16 + before) / 2 ^ length t % 16))

right_behind : ℕ → ℕ → Bool
right_behind before run = every 8 (λ k. every (2 ^ k) (test before k run))

right-all : T (every 16 (λ before. of (run_before before) (right_behind before)))
unfolding every of right_behind test run_before low_bits value is_fifth run_on stuff run_after
right-all = tt

-- ---- the low bits of a byte

module _ (before byte k : ℕ) (b : before < 16) (h : k < 8) where
  abbrev run : ℕ
  run = run_before before

  abbrev pub low : ℕ
  low = byte % 2 ^ k

  abbrev s : List Bool
  s = low_bits k byte

  bits-low : low_bits 8 low ≡ s ++ zeros (8 - k)
  bits-low =
      let e : k + (8 - k) ≡ 8 = omega arith in
      ap (λ n. low_bits n low) (sym e) ∙ low_bits-append k (8 - k) low
      ∙ ap₂ ◌++◌ (low_bits-mod k byte) (ap (low_bits (8 - k)) (div-eq_of_lt (mod-lt byte (pow_pos k))) ∙ low_bits-zero (8 - k))

  run_is : run_after run s ≡ run_before ((value (stuff run s) * 16 + before) / 2 ^ length (stuff run s) % 16)
  unfolding right_behind test
  run_is =
      let t = every_of 16 run_before right_behind right-all before b in
      let u = every_at 8 (λ k. every (2 ^ k) (test before k run)) t k h in
      let v = every_at (2 ^ k) (test before k run) u low (mod-lt byte (pow_pos k)) in
      let e = eqb→eq _ _ v in
      subst (λ (s : List Bool). run_after run s ≡ run_before ((value (stuff run s) * 16 + before) / 2 ^ length (stuff run s) % 16)) (low_bits-mod k byte) e

  module _ {x : SentByte} (e : Sends 8 before low x) where
    abbrev n : ℕ
    n = k + x.zeros

    split_at : stuff run s ++ zeros (8 - k) ≡ low_bits n x.bits ++ low_bits (8 - k) (x.bits / 2 ^ n)
    split_at =
        let w : 8 + x.zeros ≡ n + (8 - k) = omega arith in
        sym (stuff_before-zeros run s (8 - k)) ∙ ap (stuff run) (sym bits-low) ∙ e.bits_are ∙ ap (λ w. low_bits w x.bits) w ∙ low_bits-append n (8 - k) x.bits

    length_is : length (stuff run s) ≡ length (low_bits n x.bits)
    length_is =
        omega (
          arith,
          ap length split_at,
          length-append (stuff run s) (zeros (8 - k)),
          length-zeros (8 - k),
          length-append (low_bits n x.bits) (low_bits (8 - k) (x.bits / 2 ^ n)),
          length-low_bits (8 - k) (x.bits / 2 ^ n),
        )

    parts : (stuff run s ≡ low_bits n x.bits) × (zeros (8 - k) ≡ low_bits (8 - k) (x.bits / 2 ^ n))
    parts = append_split (stuff run s) (low_bits n x.bits) (zeros (8 - k)) (low_bits (8 - k) (x.bits / 2 ^ n)) length_is split_at

    -- nothing above them
    none_above : x.bits / 2 ^ n ≡ 0
    none_above =
        let w : 8 + x.zeros ≡ 8 - k + n = omega arith in
        let below : x.bits / 2 ^ n < 2 ^ (8 - k) = shr_lt (8 - k) n (subst (λ (w : ℕ). x.bits < 2 ^ w) w e.bits_small) in
        sym (mod-eq_of_lt below) ∙ sym (value-low_bits (8 - k) (x.bits / 2 ^ n)) ∙ ap value (sym parts.1 ∙ sym (low_bits-zero (8 - k))) ∙ value-low_bits (8 - k) 0 ∙ mod-eq_of_lt (pow_pos (8 - k))

    small : x.bits < 2 ^ n
    small = omega (arith, split x.bits n, ap (λ z. z * 2 ^ n) none_above, mod-lt x.bits (pow_pos n))

    abbrev pub line : ℕ
    line = bit_or before (x.bits * 16 % 4294967296)

    line_is : line ≡ value (stuff run s) * 16 + before
    line_is =
        joined-or 4 before (8 + x.zeros) x.bits b e.bits_small (omega (arith, e.few))
        ∙ ap (λ v. v * 16 + before) (sym (ap value parts.0 ∙ value-low_bits n x.bits ∙ mod-eq_of_lt small))

    -- the last four bits as code takes them
    pub sent_low : {last : ℕ} → last ≡ line / 2 ^ n % 16 → Sends k before byte (record { bits = x.bits; zeros = x.zeros; before = last })
    sent_low {last} l =
        record {
          bits_are = parts.0;
          run_is =
              run_is ∙ ap₂ (λ v m. run_before (v / 2 ^ m % 16)) (sym line_is) (length_is ∙ length-low_bits n x.bits) ∙ ap run_before (sym l);
          few = e.few;
          bits_small = small;
          before_small = subst (λ (m : ℕ). m < 16) (sym l) (mod-lt (line / 2 ^ n) (lit< tt));
        }
