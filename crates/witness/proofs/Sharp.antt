-- The bounds of the third property are met, by lines of a few bytes that are computed. Assumes nothing.
use mathlib.Core.Path.{◌≡◌, refl, ap, ◌∙◌}
use Prim.Native.Nat.{ℕ, suc, ◌<◌}
use native.Mathlib.Omega.{arith}
use mathlib.Core.Bool.{Bool, true, false, xor}
use mathlib.Core.List.{List, [], ◌∷◌, ◌++◌}
use lib.ListN.{length, replicate}
use Rattle.bits.specs.Strings.{weight}
use Rattle.bits.specs.Bytes.{low_bits, bits_of, value, pack_into, pack, Bytes}
use Rattle.bits.specs.Differences.{Each}
use Rattle.bits.proofs.Strings.{xor_bits_self, weight-zeros}
use Rattle.bits.proofs.Differences.{length-differing, each_map}
use Rattle.division.specs.Division.{divide, remainder}
use Rattle.division.specs.Generators.{ccitt16, ibm16, ieee32}
use Rattle.cyclic.specs.Check.{Parameters, formula, check_bits, method3, method4, method5, method6}
use Rattle.cyclic.specs.Check as cyclic
use Rattle.block.specs.declared.Method.{Method}
use Rattle.block.specs.declared.Method.TheVariants as method
use Rattle.block.specs.declared.Parity.{Parity}
use Rattle.block.specs.declared.Parity.TheVariants.{Even, Odd}
use Rattle.block.specs.declared.EndSign.TheVariants.{Etx}
use Rattle.block.specs.declared.Mark.{Mark}
use Rattle.block.specs.declared.Mark.TheVariants.{LeftOut, TextByte, End}
use Rattle.block.specs.declared.Field.TheVariants.{Text}
use Rattle.block.specs.declared.Code.{Code}
use Rattle.block.specs.declared.Code.TheVariants.{Koi7, Dkoi}
use Rattle.block.specs.Signs.{CodeTable, koi7, dkoi, table_of, sign_of}
use Rattle.block.specs.Characters.{character, parity_right}
use Rattle.block.specs.Diagonals.{diagonal_bits}
use Rattle.block.specs.Check.{row_sums, matrix_check, diagonal_check, check_of, check_length}
use Rattle.block.specs.Read.{found, framed, framing_of}
use Rattle.frame.specs.Stuffing.{is_fifth, run_on, stuff, unstuff, behind_five}
use Rattle.frame.specs.Frame.{flag, enclose, frame_of}
use Rattle.frame.specs.Read as frame-reading
use Rattle.guarantees.specs.Lines.{Lines, TwoAccepted, distance, differing_checked, AcceptedHasFraming, NoBurst}
use Rattle.guarantees.specs.Blocks.{Accepted, checked_bits, blocks}
use Rattle.guarantees.specs.Frames as frame-lines
use Rattle.guarantees.specs.Third.{method_1, method_2, method_3, method_4, method_5, method_6, method_7, lines_of}
use Rattle.witness.specs.Sharp.{DifferInJust, DifferInBurst, DifferFromEndToEnd, DifferInColumns, SharpBounds}
use Rattle.guarantees.proofs.Blocks.Framing.{CheckRight, accepted_right}
use Rattle.guarantees.proofs.Frames.Framing as frame-framing
use Rattle.guarantees.proofs.Third.{block_has_framing, frame_has_framing, third_property}

-- ---- two accepted lines that differ in some bit

module _ (L : Lines) (framing : AcceptedHasFraming L) (A B : L.Line) where
  unequal : {n : ℕ} → distance L A B ≡ suc n → A ≡ B → ⊥
  unequal d e =
      let a = L.bits A in
      let none : distance L A A ≡ 0 = length-differing a a ∙ ap weight (xor_bits_self a) ∙ weight-zeros (length a) in
      omega (arith, ap (distance L A) e)

  pub two_accepted : L.IsLine A × L.IsLine B → L.size A ≡ L.size B → L.framing_of A ≡ L.framing_of B → L.Accepted A × L.Accepted B
      → {n : ℕ} → distance L A B ≡ suc n → TwoAccepted L A B
  two_accepted lines size one accepted d =
      record {
        same_framing = record { lines = lines; one_length = size; has_framing = framing A accepted.0; one_framing = one };
        accepted = accepted;
        unequal = unequal d;
      }

-- a burst one bit longer than those that never occur
in_burst : {n k : ℕ} {L : Lines} {A B : L.Line} → NoBurst n L → TwoAccepted L A B → distance L A B ≡ k → {ns : List ℕ} → differing_checked L A B ≡ ns
    → Each (λ i. i < suc n) ns → DifferInBurst (suc n) k L
in_burst {L = L} {A} {B} never t d {ns} e h =
    record {
      A = A;
      B = B;
      two_accepted = t;
      bits = d;
      burst = rw e (each_map ns (λ i k. each_map ns (λ j l. omega arith) h) h);
      none_shorter = λ b k. never A B t b (omega arith);
    }

-- ---- blocks of plain text: STX, n bytes of text, ETX and the check

abbrev marks_of : ℕ → List Mark
marks_of n = LeftOut ∷ (replicate n TextByte ++ End ∷ [])

module _ (t : CodeTable) (m : Method) (p : Parity) (n : ℕ) where
  abbrev IsText : List ℕ → Type 0
  IsText line = (framed t m p line ≡ found (marks_of n) Text Etx) × CheckRight m p (marks_of n) line

  text_accepted : (line : List ℕ) → IsText line → Accepted t m p line
  text_accepted line (e, right) = (accepted_right t m p line (record { marks = marks_of n; field = Text; end = Etx; is_found = e })).1 right

  text_pair : (A B : List ℕ) → Bytes A × Bytes B → length A ≡ length B → framing_of t m p A ≡ framing_of t m p B → IsText A → IsText B
      → {k : ℕ} → distance (blocks t m p) A B ≡ suc k → TwoAccepted (blocks t m p) A B
  text_pair A B bytes size one a b =
      two_accepted (blocks t m p) (block_has_framing t m p) A B bytes size one (text_accepted A a, text_accepted B b)

-- two bits of one character
parity_pair : (p : Parity) → DifferInJust 2 (lines_of (method_1 koi7 p))
unfolding framed framing_of parity_right character sign_of check_of check_length pack pack_into value low_bits bits_of xor
parity_pair Even =
    record {
      A = 0x82 ∷ 0x41 ∷ 0x03 ∷ [];
      B = 0x82 ∷ 0x42 ∷ 0x03 ∷ [];
      two_accepted = text_pair koi7 method.Parity Even 1 _ _ (omega arith) refl refl (refl, refl) (refl, refl) refl;
      bits = refl;
    }
parity_pair Odd =
    record {
      A = 0x02 ∷ 0xC1 ∷ 0x83 ∷ [];
      B = 0x02 ∷ 0xC2 ∷ 0x83 ∷ [];
      two_accepted = text_pair koi7 method.Parity Odd 1 _ _ (omega arith) refl refl (refl, refl) (refl, refl) refl;
      bits = refl;
    }

-- rows 1 and 5 of document 01; row 2 with its character and check exchanged
matrix_pair : (p : Parity) → DifferInJust 4 (lines_of (method_2 koi7 p))
unfolding framed framing_of parity_right character sign_of check_of check_length pack pack_into value matrix_check row_sums low_bits bits_of xor
matrix_pair Even =
    record {
      A = 0x82 ∷ 0x41 ∷ 0x03 ∷ 0x42 ∷ [];
      B = 0x82 ∷ 0x42 ∷ 0x03 ∷ 0x41 ∷ [];
      two_accepted = text_pair koi7 method.Matrix Even 1 _ _ (omega arith) refl refl (refl, refl) (refl, refl) refl;
      bits = refl;
    }
matrix_pair Odd =
    record {
      A = 0x02 ∷ 0xC1 ∷ 0x83 ∷ 0xC2 ∷ [];
      B = 0x02 ∷ 0xC2 ∷ 0x83 ∷ 0xC1 ∷ [];
      two_accepted = text_pair koi7 method.Matrix Odd 1 _ _ (omega arith) refl refl (refl, refl) (refl, refl) refl;
      bits = refl;
    }

-- two characters exchanged
exchanged_pair : (p : Parity) → DifferInBurst 10 4 (lines_of (method_2 koi7 p))
unfolding framed framing_of checked_bits parity_right character sign_of check_of check_length pack pack_into value matrix_check row_sums low_bits bits_of xor
exchanged_pair Even =
    in_burst (third_property.burst_matrix koi7 Even)
    (text_pair koi7 method.Matrix Even 2 (0x82 ∷ 0x41 ∷ 0x42 ∷ 0x03 ∷ 0x00 ∷ []) (0x82 ∷ 0x42 ∷ 0x41 ∷ 0x03 ∷ 0x00 ∷ [])
    (omega arith) refl refl (refl, refl) (refl, refl) refl) refl {ns = 0 ∷ 1 ∷ 8 ∷ 9 ∷ []} refl (omega arith)
exchanged_pair Odd =
    in_burst (third_property.burst_matrix koi7 Odd)
    (text_pair koi7 method.Matrix Odd 2 (0x02 ∷ 0xC1 ∷ 0xC2 ∷ 0x83 ∷ 0x80 ∷ []) (0x02 ∷ 0xC2 ∷ 0xC1 ∷ 0x83 ∷ 0x80 ∷ [])
    (omega arith) refl refl (refl, refl) (refl, refl) refl) refl {ns = 0 ∷ 1 ∷ 8 ∷ 9 ∷ []} refl (omega arith)

-- the text's first character and the row check: columns 1 and 8 of eight
eight_columns : (p : Parity) → DifferInColumns 4 7 (1 ∷ 1 ∷ 8 ∷ 8 ∷ []) (lines_of (method_7 koi7 p))
unfolding framed framing_of checked_bits parity_right character sign_of check_of check_length pack pack_into value matrix_check row_sums diagonal_check diagonal_bits low_bits bits_of xor
eight_columns Even =
    record {
      in_just =
          record {
            A = 0x82 ∷ 0x41 ∷ 0x41 ∷ 0x41 ∷ 0x41 ∷ 0x41 ∷ 0x41 ∷ 0x03 ∷ 0x03 ∷ 0x0C ∷ [];
            B = 0x82 ∷ 0x42 ∷ 0x41 ∷ 0x41 ∷ 0x41 ∷ 0x41 ∷ 0x41 ∷ 0x03 ∷ 0x00 ∷ 0x0C ∷ [];
            two_accepted = text_pair koi7 method.Diagonal Even 6 _ _ (omega arith) refl refl (refl, refl) (refl, refl) refl;
            bits = refl;
          };
      counted = refl;
      columns_are = refl;
    }
eight_columns Odd =
    record {
      in_just =
          record {
            A = 0x02 ∷ 0xC1 ∷ 0xC1 ∷ 0xC1 ∷ 0xC1 ∷ 0xC1 ∷ 0xC1 ∷ 0x83 ∷ 0x83 ∷ 0x8C ∷ [];
            B = 0x02 ∷ 0xC2 ∷ 0xC1 ∷ 0xC1 ∷ 0xC1 ∷ 0xC1 ∷ 0xC1 ∷ 0x83 ∷ 0x80 ∷ 0x8C ∷ [];
            two_accepted = text_pair koi7 method.Diagonal Odd 6 _ _ (omega arith) refl refl (refl, refl) (refl, refl) refl;
            bits = refl;
          };
      counted = refl;
      columns_are = refl;
    }

-- a character, the row check and the diagonal character
three_columns : (p : Parity) → DifferInColumns 6 2 (1 ∷ 1 ∷ 3 ∷ 3 ∷ 4 ∷ 4 ∷ []) (lines_of (method_7 koi7 p))
unfolding framed framing_of checked_bits parity_right character sign_of check_of check_length pack pack_into value matrix_check row_sums diagonal_check diagonal_bits low_bits bits_of xor
three_columns Even =
    record {
      in_just =
          record {
            A = 0x82 ∷ 0x41 ∷ 0x03 ∷ 0x42 ∷ 0x05 ∷ [];
            B = 0x82 ∷ 0x44 ∷ 0x03 ∷ 0x47 ∷ 0x27 ∷ [];
            two_accepted = text_pair koi7 method.Diagonal Even 1 _ _ (omega arith) refl refl (refl, refl) (refl, refl) refl;
            bits = refl;
          };
      counted = refl;
      columns_are = refl;
    }
three_columns Odd =
    record {
      in_just =
          record {
            A = 0x02 ∷ 0xC1 ∷ 0x83 ∷ 0xC2 ∷ 0x85 ∷ [];
            B = 0x02 ∷ 0xC4 ∷ 0x83 ∷ 0xC7 ∷ 0xA7 ∷ [];
            two_accepted = text_pair koi7 method.Diagonal Odd 1 _ _ (omega arith) refl refl (refl, refl) (refl, refl) refl;
            bits = refl;
          };
      counted = refl;
      columns_are = refl;
    }

-- texts that differ by the generator: x^16 + x^12 + x^5 + 1, and x^16 + x^15 + x^2 + 1
burst_3 : (c : Code) (p : Parity) → DifferInBurst 17 4 (lines_of (method_3 (table_of c) p))
unfolding framed framing_of checked_bits character sign_of check_of check_length pack pack_into value check_bits formula method3 ccitt16 remainder divide low_bits bits_of xor
burst_3 Koi7 p =
    in_burst (third_property.burst_16 (method_3 koi7 p) tt)
    (text_pair koi7 method.Cyclic p 3 (0x02 ∷ 0x44 ∷ 0x44 ∷ 0x44 ∷ 0x03 ∷ 0x0F ∷ 0xEE ∷ []) (0x02 ∷ 0x55 ∷ 0x4C ∷ 0x45 ∷ 0x03 ∷ 0x0F ∷ 0xEE ∷ [])
    (omega arith) refl refl (refl, refl) (refl, refl) refl) refl {ns = 0 ∷ 4 ∷ 11 ∷ 16 ∷ []} refl (omega arith)
burst_3 Dkoi p =
    in_burst (third_property.burst_16 (method_3 dkoi p) tt)
    (text_pair dkoi method.Cyclic p 3 (0x02 ∷ 0x44 ∷ 0x44 ∷ 0x44 ∷ 0x03 ∷ 0x0F ∷ 0xEE ∷ []) (0x02 ∷ 0x55 ∷ 0x4C ∷ 0x45 ∷ 0x03 ∷ 0x0F ∷ 0xEE ∷ [])
    (omega arith) refl refl (refl, refl) (refl, refl) refl) refl {ns = 0 ∷ 4 ∷ 11 ∷ 16 ∷ []} refl (omega arith)

burst_4 : (c : Code) (p : Parity) → DifferInBurst 17 4 (lines_of (method_4 (table_of c) p))
unfolding framed framing_of checked_bits character sign_of check_of check_length pack pack_into value check_bits formula method4 ibm16 remainder divide low_bits bits_of xor
burst_4 Koi7 p =
    in_burst (third_property.burst_16 (method_4 koi7 p) tt)
    (text_pair koi7 method.CyclicAlternative p 3 (0x02 ∷ 0x44 ∷ 0x71 ∷ 0x44 ∷ 0x03 ∷ 0x37 ∷ 0xEA ∷ [])
    (0x02 ∷ 0x47 ∷ 0x31 ∷ 0x45 ∷ 0x03 ∷ 0x37 ∷ 0xEA ∷ [])
    (omega arith) refl refl (refl, refl) (refl, refl) refl) refl {ns = 0 ∷ 1 ∷ 14 ∷ 16 ∷ []} refl (omega arith)
burst_4 Dkoi p =
    in_burst (third_property.burst_16 (method_4 dkoi p) tt)
    (text_pair dkoi method.CyclicAlternative p 3 (0x02 ∷ 0x44 ∷ 0x71 ∷ 0x44 ∷ 0x03 ∷ 0x37 ∷ 0xEA ∷ [])
    (0x02 ∷ 0x47 ∷ 0x31 ∷ 0x45 ∷ 0x03 ∷ 0x37 ∷ 0xEA ∷ [])
    (omega arith) refl refl (refl, refl) (refl, refl) refl) refl {ns = 0 ∷ 1 ∷ 14 ∷ 16 ∷ []} refl (omega arith)

-- ---- frames, of contents that differ by the generator and so have one check

module _ (m : Parameters) where
  abbrev IsFrame : List Bool → Type 0
  IsFrame content =
      (frame-reading.framed m (frame_of m content) ≡ frame-reading.found (cyclic.checked_bits m content))
      × frame-framing.CheckRight m (cyclic.checked_bits m content)

  frame_accepted : (content : List Bool) → IsFrame content → frame-lines.Accepted m (frame_of m content)
  frame_accepted content (e, right) =
      (frame-framing.accepted_right m (frame_of m content) (record { checked = cyclic.checked_bits m content; is_found = e })).1 right

  frame_pair : (c d : List Bool) → length (frame_of m c) ≡ length (frame_of m d)
      → frame-reading.framing_of m (frame_of m c) ≡ frame-reading.framing_of m (frame_of m d) → IsFrame c → IsFrame d
      → {k : ℕ} → distance (frame-lines.frames m) (frame_of m c) (frame_of m d) ≡ suc k
      → TwoAccepted (frame-lines.frames m) (frame_of m c) (frame_of m d)
  frame_pair c d size one a b =
      two_accepted (frame-lines.frames m) (frame_has_framing m) (frame_of m c) (frame_of m d) (tt, tt) size one
      (frame_accepted c a, frame_accepted d b)

-- where the generators have their terms
abbrev terms_5 : List ℕ
terms_5 = 0 ∷ 4 ∷ 11 ∷ 16 ∷ []

abbrev terms_6 : List ℕ
terms_6 = 0 ∷ 6 ∷ 9 ∷ 10 ∷ 16 ∷ 20 ∷ 21 ∷ 22 ∷ 24 ∷ 25 ∷ 27 ∷ 28 ∷ 30 ∷ 31 ∷ 32 ∷ []

burst_5 : DifferInBurst 17 4 (lines_of method_5)
unfolding low_bits bits_of check_bits cyclic.checked_bits formula method5 divide remainder ccitt16 is_fifth run_on stuff unstuff behind_five flag enclose frame_of frame-reading.framed frame-reading.framing_of frame-lines.checked_bits xor
burst_5 =
    in_burst (third_property.burst_16 method_5 tt)
    (frame_pair method5 (bits_of (0x79 ∷ 0x42 ∷ 0xBD ∷ [])) (bits_of (0x68 ∷ 0x4A ∷ 0xBC ∷ [])) refl refl (refl, refl) (refl, refl) refl) refl
    {ns = terms_5} refl (omega arith)

burst_6 : DifferInBurst 33 15 (lines_of method_6)
unfolding low_bits bits_of check_bits cyclic.checked_bits formula method6 divide remainder ieee32 is_fifth run_on stuff unstuff behind_five flag enclose frame_of frame-reading.framed frame-reading.framing_of frame-lines.checked_bits xor
burst_6 =
    in_burst third_property.burst_32
    (frame_pair method6 (bits_of (0x9A ∷ 0xD7 ∷ 0xC5 ∷ 0xB3 ∷ 0xD0 ∷ [])) (bits_of (0xDB ∷ 0xD1 ∷ 0xB4 ∷ 0x68 ∷ 0xD1 ∷ []))
    refl refl (refl, refl) (refl, refl) refl) refl
    {ns = terms_6} refl (omega arith)

-- one content bit, whose change changes the check by the generator's other terms
one_bit_5 : DifferFromEndToEnd 17 4 (lines_of method_5)
unfolding low_bits bits_of check_bits cyclic.checked_bits formula method5 divide remainder ccitt16 is_fifth run_on stuff unstuff behind_five flag enclose frame_of frame-reading.framed frame-reading.framing_of frame-lines.checked_bits xor in_burst
one_bit_5 =
    record {
      in_burst =
          in_burst (third_property.burst_16 method_5 tt)
          (frame_pair method5 (false ∷ []) (true ∷ []) refl refl (refl, refl) (refl, refl) refl) refl {ns = terms_5} refl (omega arith);
      checked = refl;
    }

one_bit_6 : DifferFromEndToEnd 33 15 (lines_of method_6)
unfolding low_bits bits_of check_bits cyclic.checked_bits formula method6 divide remainder ieee32 is_fifth run_on stuff unstuff behind_five flag enclose frame_of frame-reading.framed frame-reading.framing_of frame-lines.checked_bits xor in_burst
one_bit_6 =
    record {
      in_burst =
          in_burst third_property.burst_32
          (frame_pair method6 (false ∷ []) (true ∷ []) refl refl (refl, refl) (refl, refl) refl) refl {ns = terms_6} refl (omega arith);
      checked = refl;
    }

pub sharp_bounds : SharpBounds
sharp_bounds =
    record {
      distance-parity = parity_pair;
      distance_matrix = matrix_pair;
      burst_matrix = exchanged_pair;
      burst_3 = burst_3;
      burst_4 = burst_4;
      burst_5 = burst_5;
      burst_32 = burst_6;
      one_bit_5 = one_bit_5;
      one_bit_32 = one_bit_6;
      four_diagonal = eight_columns;
      six_diagonal = three_columns;
    }
