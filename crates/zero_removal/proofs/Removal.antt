-- One byte received: each of the cases that code tells apart is right at every byte and at all that can stand before it, by one
-- test that antt computes. Assumes nothing.
use mathlib.Core.Path.{◌≡◌, refl, sym, ap, ◌∙◌, subst}
use mathlib.Core.Bool.{Bool, false, cond}
use mathlib.Core.List.{List, [], ◌∷◌}
use Rattle.std.specs.Prelude.{Result, Ok, Err}
use Prim.Native.Nat.{ℕ, ◌+◌, ◌*◌, ◌-◌, ◌/◌, ◌%◌, ◌^◌, ◌<◌}
use native.Mathlib.Omega.{arith}
use borrow.Author.Tests.{eq-eqb, ne_eqb, ltb-true, leb-true}
use lib.Dec.{T, eqb, leb, ltb, eqb→eq}
use lib.Bits.{bit_and, bit_or, bit_xor}
use lib.Count.{count_trailing_zeros}
use Rattle.bits.specs.Strings.{same}
use Rattle.bits.specs.Bytes.{low_bits}
use Rattle.bits.proofs.Strings.{same_sound}
use Rattle.bits.proofs.Tests.{every, T_true}
use Rattle.frame.specs.Stuffing.{Unstuffed, clean, missing}
use Rattle.zero_insertion.specs.Insertion.{fives_in}
use Rattle.zero_insertion.proofs.Tests.{all, all_each, of, every_of}
use Rattle.zero_insertion.proofs.FiveOnes.{fives_behind, fives_joined}
use Rattle.zero_removal.specs.declared.ReceivedByte.{ReceivedByte}
use Rattle.zero_removal.specs.declared.MissingZero.{MissingZero}
use Rattle.zero_removal.specs.Removal.{ones_through, ones_before, unstuff_part, Receives}

abbrev pub received_byte : ℕ → ℕ → ℕ → Result ReceivedByte MissingZero
received_byte bits zeros last = Ok (record { bits = bits; zeros = zeros; last = last })

abbrev pub missing_zero : ℕ → Result ReceivedByte MissingZero
missing_zero place = Err (record { 0 = place })

-- ---- the numbers of the code, by the places of the bits behind five ones

module _ (byte behind : ℕ) where
  abbrev to_zero : ℕ
  to_zero = bit_xor behind (behind - 1)

  abbrev low : ℕ
  low = bit_and byte (to_zero / 2)

  abbrev pub high : ℕ
  high = bit_xor byte low

  -- the first bit behind five ones is a zero
  abbrev pub First : Type 0
  First = low ≡ bit_and byte to_zero

  abbrev pub less_one : Result ReceivedByte MissingZero
  less_one = received_byte (bit_or low (high / 2)) 1 (byte / 8)

  module _ (more : ℕ) where
    abbrev to_second : ℕ
    to_second = bit_or (bit_xor more (more - 1) * 32 % 4294967296) 31

    abbrev middle : ℕ
    middle = bit_and high (to_second / 2)

    -- the second one is
    abbrev pub Second : Type 0
    Second = middle ≡ bit_and high to_second

    abbrev pub less_two : Result ReceivedByte MissingZero
    less_two = received_byte (bit_or (bit_or low (middle / 2)) (bit_xor high middle / 4)) 2 (byte / 8)

    received_by : Result ReceivedByte MissingZero
    received_by =
        cond (eqb behind 0) (received_byte byte 0 (byte / 8))
        (cond (eqb low (bit_and byte to_zero))
        (cond (eqb more 0) less_one (cond (eqb middle (bit_and high to_second)) less_two (missing_zero (count_trailing_zeros 32 more + 5))))
        (missing_zero (count_trailing_zeros 32 behind)))

-- ---- the test

is_clean : Unstuffed → List Bool → Bool
is_clean (clean s) t = same s t
is_clean (missing p) t = false

is_clean_sound : (u : Unstuffed) (t : List Bool) → T (is_clean u t) → u ≡ clean t
unfolding is_clean
is_clean_sound (clean s) t h = ap clean (same_sound s t h)
is_clean_sound (missing p) t h = absurd h

is_missing : Unstuffed → ℕ → Bool
is_missing (clean s) q = false
is_missing (missing p) q = eqb p q

is_missing_sound : (u : Unstuffed) (q : ℕ) → T (is_missing u q) → u ≡ missing q
unfolding is_missing
is_missing_sound (clean s) q h = absurd h
is_missing_sound (missing p) q h = ap missing (eqb→eq p q h)

-- by what is left, or by the place of a zero that is missing
tests : ℕ → ℕ → Result ReceivedByte MissingZero → List Bool
tests run byte (Ok r) =
    is_clean (unstuff_part run 0 (low_bits 8 byte)) (low_bits (8 - r.zeros) r.bits)
    ∷ eqb (ones_through run (low_bits 8 byte)) (ones_before r.last) ∷ leb r.zeros 2 ∷ ltb r.bits (2 ^ (8 - r.zeros)) ∷ ltb r.last 32 ∷ []
tests run byte (Err m) = is_missing (unstuff_part run 0 (low_bits 8 byte)) m.0 ∷ ltb m.0 8 ∷ []

tests_sound : (before byte : ℕ) (r : Result ReceivedByte MissingZero) → T (all (tests (ones_before before) byte r)) → Receives before byte r
unfolding tests
tests_sound before byte (Ok r) t =
    let a = all_each (tests (ones_before before) byte (Ok r)) t in
    record {
      bits_are = is_clean_sound (unstuff_part (ones_before before) 0 (low_bits 8 byte)) (low_bits (8 - r.zeros) r.bits) a.0;
      run_is = eqb→eq _ _ a.1.0;
      few = leb-true _ _ (T_true _ a.1.1.0);
      bits_small = ltb-true _ _ (T_true _ a.1.1.1.0);
      last_small = ltb-true _ _ (T_true _ a.1.1.1.1.0);
    }
tests_sound before byte (Err m) t =
    let a = all_each (tests (ones_before before) byte (Err m)) t in
    record {
      place_is = is_missing_sound (unstuff_part (ones_before before) 0 (low_bits 8 byte)) m.0 a.0;
      place_small = ltb-true _ _ (T_true _ a.1.0);
    }

right : ℕ → ℕ → ℕ → Bool
right run byte behind = all (tests run byte (received_by byte behind (bit_and (fives_in (high byte behind)) 7)))

right_behind : ℕ → ℕ → Bool
right_behind before run = every 256 (λ byte. of (bit_and (fives_behind 5 before byte) 255) (right run byte))

right-all : T (every 32 (λ before. of (ones_before before) (right_behind before)))
unfolding every all of right_behind right received_by tests is_clean is_missing fives_in ones_through ones_before unstuff_part low_bits count_trailing_zeros
right-all = tt

-- ---- each case of the code

module _ (before byte : ℕ) (b : before < 32) (h : byte < 256) {f : ℕ} (is : f ≡ fives_in (bit_or before (byte * 32 % 4294967296))) where
  abbrev behind : ℕ
  behind = bit_and f 255

  right_at : T (right (ones_before before) byte behind)
  unfolding right_behind
  right_at =
      let run = ones_before before in
      let t = every_of 32 ones_before right_behind right-all before b in
      let e : fives_behind 5 before byte ≡ f = sym (is ∙ fives_joined 5 before byte b h (omega arith)) in
      let u = every_of 256 (λ byte. bit_and (fives_behind 5 before byte) 255) (right run) t byte h in
      subst T (ap (λ n. right run byte (bit_and n 255)) e) u

  received-right : {g : ℕ} → g ≡ fives_in (high byte behind) → Receives before byte (received_by byte behind (bit_and g 7))
  unfolding right
  received-right e =
      let test : ℕ → Type 0 = λ n. T (all (tests (ones_before before) byte (received_by byte behind (bit_and n 7)))) in
      tests_sound before byte _ (subst test (sym e) right_at)

  pub received_whole : behind ≡ 0 → Receives before byte (received_byte byte 0 (byte / 8))
  unfolding received_by
  received_whole e = simp (eq-eqb behind 0 e) at (received-right refl)

  module _ (n : behind ≡ 0 → ⊥) where
    pub first_missing : (First byte behind → ⊥) → Receives before byte (missing_zero (count_trailing_zeros 32 behind))
    unfolding received_by
    first_missing m = simp (ne_eqb behind 0 n, ne_eqb _ _ m) at (received-right refl)

    module _ (z : First byte behind) {g : ℕ} (s : g ≡ fives_in (high byte behind)) where
      abbrev more : ℕ
      more = bit_and g 7

      pub received_one : more ≡ 0 → Receives before byte (less_one byte behind)
      unfolding received_by
      received_one e = simp (ne_eqb behind 0 n, eq-eqb _ _ z, eq-eqb more 0 e) at (received-right s)

      module _ (k : more ≡ 0 → ⊥) where
        pub second_missing : (Second byte behind more → ⊥) → Receives before byte (missing_zero (count_trailing_zeros 32 more + 5))
        unfolding received_by
        second_missing m = simp (ne_eqb behind 0 n, eq-eqb _ _ z, ne_eqb more 0 k, ne_eqb _ _ m) at (received-right s)

        pub received-two : Second byte behind more → Receives before byte (less_two byte behind more)
        unfolding received_by
        received-two m = simp (ne_eqb behind 0 n, eq-eqb _ _ z, ne_eqb more 0 k, eq-eqb _ _ m) at (received-right s)
