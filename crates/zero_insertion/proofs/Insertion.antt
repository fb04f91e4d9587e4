-- One byte sent: each of the cases that code tells apart is right at every byte and at all that can stand before it, by one test
-- that antt computes. Assumes nothing.
use mathlib.Core.Path.{◌≡◌, refl, sym, ap, ◌∙◌, subst}
use mathlib.Core.Bool.{Bool, cond}
use mathlib.Core.List.{List, [], ◌∷◌}
use Prim.Native.Nat.{ℕ, ◌+◌, ◌*◌, ◌-◌, ◌/◌, ◌%◌, ◌^◌, ◌<◌}
use native.Mathlib.Omega.{arith}
use borrow.Author.Tests.{eq-eqb, ne_eqb, ltb-true, leb-true}
use lib.Dec.{T, eqb, leb, ltb, eqb→eq}
use lib.Bits.{bit_and, bit_or, bit_xor}
use Rattle.bits.specs.Strings.{same}
use Rattle.bits.specs.Bytes.{low_bits}
use Rattle.bits.proofs.Strings.{same_sound}
use Rattle.bits.proofs.Tests.{every, T_true}
use Rattle.frame.specs.Stuffing.{is_fifth, run_on, stuff, run_after}
use Rattle.zero_insertion.specs.declared.SentByte.{SentByte}
use Rattle.zero_insertion.specs.Insertion.{fives_in, run_before, Sends}
use Rattle.zero_insertion.proofs.Tests.{all, all_each, of, every_of}
use Rattle.zero_insertion.proofs.FiveOnes.{fives_behind, fives_joined}

-- ---- the numbers of the code, by the places of the fifth ones

module _ (byte fifths : ℕ) where
  abbrev low : ℕ
  low = bit_and byte (bit_xor fifths (fifths - 1))

  abbrev pub high : ℕ
  high = bit_xor byte low

  abbrev pub whole_byte : SentByte
  whole_byte = record { bits = byte; zeros = 0; before = byte / 16 }

  abbrev pub one_zero : SentByte
  one_zero = let sent = bit_or low (high * 2 % 4294967296) in record { bits = sent; zeros = 1; before = sent / 32 }

  module _ (more : ℕ) where
    abbrev middle : ℕ
    middle = bit_and high (bit_or (bit_xor more (more - 1) * 16 % 4294967296) 15)

    abbrev pub two_zeros : SentByte
    two_zeros =
        let sent = bit_or (bit_or low (middle * 2 % 4294967296)) (bit_xor high middle * 4 % 4294967296) in
        record { bits = sent; zeros = 2; before = sent / 64 }

    sent_by : SentByte
    sent_by = cond (eqb fifths 0) whole_byte (cond (eqb more 0) one_zero two_zeros)

-- ---- the test

abbrev tests : ℕ → ℕ → SentByte → List Bool
tests run byte s =
    same (stuff run (low_bits 8 byte)) (low_bits (8 + s.zeros) s.bits)
    ∷ eqb (run_after run (low_bits 8 byte)) (run_before s.before)
    ∷ leb s.zeros 2 ∷ ltb s.bits (2 ^ (8 + s.zeros)) ∷ ltb s.before 16 ∷ []

tests_sound : (before byte : ℕ) (s : SentByte) → T (all (tests (run_before before) byte s)) → Sends 8 before byte s
tests_sound before byte s t =
    let a = all_each (tests (run_before before) byte s) t in
    record {
      bits_are = same_sound _ _ a.0;
      run_is = eqb→eq _ _ a.1.0;
      few = leb-true _ _ (T_true _ a.1.1.0);
      bits_small = ltb-true _ _ (T_true _ a.1.1.1.0);
      before_small = ltb-true _ _ (T_true _ a.1.1.1.1.0);
    }

right : ℕ → ℕ → ℕ → Bool
right run byte fifths = all (tests run byte (sent_by byte fifths (fives_in (high byte fifths))))

right_behind : ℕ → ℕ → Bool
right_behind before run = every 256 (λ byte. of (fives_behind 4 before byte) (right run byte))

right-all : T (every 16 (λ before. of (run_before before) (right_behind before)))
unfolding every all of right_behind right sent_by fives_in run_before low_bits is_fifth run_on stuff run_after
right-all = tt

-- ---- each case of the code

module _ (before byte : ℕ) (b : before < 16) (h : byte < 256)
    {fifths : ℕ} (f : fifths ≡ fives_in (bit_or before (byte * 16 % 4294967296))) where
  right_at : T (right (run_before before) byte fifths)
  unfolding right_behind
  right_at =
      let run = run_before before in
      let t = every_of 16 run_before right_behind right-all before b in
      let e : fives_behind 4 before byte ≡ fifths = sym (f ∙ fives_joined 4 before byte b h (omega arith)) in
      subst T (ap (right run byte) e) (every_of 256 (fives_behind 4 before) (right run) t byte h)

  sent-right : {more : ℕ} → more ≡ fives_in (high byte fifths) → Sends 8 before byte (sent_by byte fifths more)
  unfolding right
  sent-right g =
      tests_sound before byte _ (subst (λ (m : ℕ). T (all (tests (run_before before) byte (sent_by byte fifths m)))) (sym g) right_at)

  pub sent_whole : fifths ≡ 0 → Sends 8 before byte (whole_byte byte fifths)
  unfolding sent_by
  sent_whole e = simp (eq-eqb fifths 0 e) at (sent-right refl)

  module _ (n : fifths ≡ 0 → ⊥) {more : ℕ} (g : more ≡ fives_in (high byte fifths)) where
    pub sent_one : more ≡ 0 → Sends 8 before byte (one_zero byte fifths)
    unfolding sent_by
    sent_one e = simp (ne_eqb fifths 0 n, eq-eqb more 0 e) at (sent-right g)

    pub sent-two : (more ≡ 0 → ⊥) → Sends 8 before byte (two_zeros byte fifths more)
    unfolding sent_by
    sent-two m = simp (ne_eqb fifths 0 n, ne_eqb more 0 m) at (sent-right g)
