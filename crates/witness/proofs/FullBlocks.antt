-- Two full blocks of method 3 that differ in two bits 32,767 apart, by computing the first and citing the property for the second.
-- Assumes nothing.
use mathlib.Core.Path.{◌≡◌, refl, ap, ◌∙◌}
use Prim.Native.Nat.{ℕ, zero, suc, ◌<◌}
use native.Mathlib.Omega.{arith}
use mathlib.Core.Bool.{xor}
use mathlib.Core.List.{List, [], ◌∷◌, ◌++◌}
use lib.ListN.{length, get_or, replicate}
use Rattle.bits.specs.Bytes.{low_bits, bits_of, value, pack_into, pack, Bytes}
use Rattle.bits.proofs.Bytes.{bytes_append}
use Rattle.division.specs.Division.{divide, remainder}
use Rattle.division.specs.Generators.{ccitt16}
use Rattle.cyclic.specs.Check.{formula, check_bits, method3}
use Rattle.block.specs.declared.Mark.{Mark}
use Rattle.block.specs.declared.Mark.TheVariants.{LeftOut, TextByte, End}
use Rattle.block.specs.declared.Field.TheVariants.{Text}
use Rattle.block.specs.declared.EndSign.TheVariants.{Etx}
use Rattle.block.specs.declared.Method.TheVariants as method
use Rattle.block.specs.declared.Parity.TheVariants.{Even}
use Rattle.block.specs.Signs.{koi7, sign_of}
use Rattle.block.specs.Characters.{character}
use Rattle.block.specs.Marks.{counted}
use Rattle.block.specs.Check.{check_of, check_length}
use Rattle.block.specs.Read.{found, framed, framing_of}
use Rattle.block.specs.Limits.{counted_limit}
use Rattle.guarantees.specs.Lines.{SameFraming, TwoAccepted, distance, differing_checked}
use Rattle.guarantees.specs.Blocks.{Accepted, checked_bits, blocks}
use Rattle.guarantees.specs.Third.{method_3}
use Rattle.guarantees.proofs.Blocks.Framing.{CheckRight, Found, has_framing, accepted_right}
use Rattle.guarantees.proofs.Third.{third_property}

-- STX, 4,095 bytes of text, ETX and the check; the first byte of the text and the first of the check are open
abbrev pub full : ℕ → ℕ → List ℕ
full b c = 0x02 ∷ b ∷ (replicate 4094 0x41 ++ (0x03 ∷ c ∷ 0xF5 ∷ []))

abbrev pub first : List ℕ
first = full 0x41 0xA3

abbrev pub second : List ℕ
second = full 0x43 0xA2

bytes_replicate : (n b : ℕ) → b < 256 → Bytes (replicate n b)
bytes_replicate zero b h = tt
bytes_replicate (suc n) b h = (h, bytes_replicate n b h)

bytes_full : (b c : ℕ) → b < 256 → c < 256 → Bytes (full b c)
bytes_full b c h k =
    (omega arith, (h, bytes_append (replicate 4094 0x41) (0x03 ∷ c ∷ 0xF5 ∷ []) (bytes_replicate 4094 0x41 (omega arith)) (omega arith)))

abbrev marks : List Mark
marks = LeftOut ∷ (replicate 4095 TextByte ++ (End ∷ []))

framed-first : framed koi7 method.Cyclic Even first ≡ found marks Text Etx
unfolding sign_of character framed check_length check_of check_bits formula method3 divide remainder ccitt16 pack pack_into value low_bits bits_of xor
framed-first = refl

-- as many as a block may count
pub longest_count : length (counted marks first) ≡ counted_limit
longest_count = refl

right-first : CheckRight method.Cyclic Even marks first
unfolding low_bits bits_of check_of check_bits formula method3 divide remainder ccitt16 xor
right-first = refl

abbrev found_first : Found koi7 method.Cyclic Even first
found_first = record { marks = marks; field = Text; end = Etx; is_found = framed-first }

pub accepted_first : Accepted koi7 method.Cyclic Even first
accepted_first = (accepted_right koi7 method.Cyclic Even first found_first).1 right-first

one_framing : framing_of koi7 method.Cyclic Even first ≡ framing_of koi7 method.Cyclic Even second
unfolding sign_of character framed framing_of check_length check_of check_bits formula method3 divide remainder ccitt16 pack pack_into value low_bits bits_of xor
one_framing = refl

pub same_framing : SameFraming (blocks koi7 method.Cyclic Even) first second
same_framing =
    record {
      lines = (bytes_full 0x41 0xA3 (omega arith) (omega arith), bytes_full 0x43 0xA2 (omega arith) (omega arith));
      one_length = refl;
      has_framing = has_framing koi7 method.Cyclic Even first found_first;
      one_framing = one_framing;
    }

-- the two checked bits in which they differ
pub differ_apart : differing_checked (blocks koi7 method.Cyclic Even) first second ≡ 1 ∷ 32768 ∷ []
unfolding sign_of character framed checked_bits check_length check_of check_bits formula method3 divide remainder ccitt16 pack pack_into value low_bits bits_of xor
differ_apart = refl

pub full_pair : TwoAccepted (blocks koi7 method.Cyclic Even) first second
full_pair =
    record {
      same_framing = same_framing;
      accepted =
          (accepted_first, (third_property.accepted_where_apart (method_3 koi7 Even) tt first second accepted_first same_framing 1 32768 differ_apart).1 refl);
      unequal = λ e. omega (arith, ap (λ (l : List ℕ). get_or l 1 0) e);
    }

-- in exactly two bits
pub two-bits : distance (blocks koi7 method.Cyclic Even) first second ≡ 2
two-bits = (third_property.differ_where_checked (method_3 koi7 Even) first second same_framing).1 ∙ ap length differ_apart
