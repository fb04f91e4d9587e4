-- The seven signs (document 01, part 1; 003 calls them НЗ, НТ, КТ, АР1, СИН, КБ, РИ1) and their values by code (document 02, card 7).
-- No other definition names these values. Assumes nothing.
use Rattle.std.specs.Prelude.{◌≡◌, refl, ℕ, Bool, true, false, cond, not, ◌&&◌, ◌||◌, List, [], ◌∷◌, eqb, ltb}
use Rattle.block.specs.declared.EndSign.{EndSign}
use Rattle.block.specs.declared.EndSign.TheVariants.{Etx, Etb, Us}
use Rattle.block.specs.declared.Code.{Code}
use Rattle.block.specs.declared.Code.TheVariants.{Koi7, Dkoi}

abbrev pub is_among : List ℕ → ℕ → Bool
is_among [] n = false
is_among (m ∷ ms) n = eqb n m || is_among ms n

abbrev pub are_different : List ℕ → Bool
are_different [] = true
are_different (n ∷ ns) = not (is_among ns n) && are_different ns

abbrev pub are_below : ℕ → List ℕ → Bool
are_below n [] = true
are_below n (m ∷ ms) = ltb m n && are_below n ms

-- the table of a code: whether its characters have seven bits, and the values of the signs, seven different ones below 80
pub record CodeTable : Type 0 where
  pub seven_bit : Bool
  pub SOH : ℕ
  pub STX : ℕ
  pub ETX : ℕ
  pub DLE : ℕ
  pub SYN : ℕ
  pub ETB : ℕ
  pub US : ℕ
  pub different : are_different (SOH ∷ STX ∷ ETX ∷ DLE ∷ SYN ∷ ETB ∷ US ∷ []) ≡ true
  pub below_80 : are_below 0x80 (SOH ∷ STX ∷ ETX ∷ DLE ∷ SYN ∷ ETB ∷ US ∷ []) ≡ true

-- in DKOI SYN is 32, ETB is 26, and the other five keep their values; it is a code of eight bits
abbrev pub has_seven_bits : Code → Bool
has_seven_bits Koi7 = true
has_seven_bits Dkoi = false

abbrev pub syn_of : Code → ℕ
syn_of Koi7 = 0x16
syn_of Dkoi = 0x32

abbrev pub etb_of : Code → ℕ
etb_of Koi7 = 0x17
etb_of Dkoi = 0x26

abbrev pub signs_of : Code → List ℕ
signs_of c = 0x01 ∷ 0x02 ∷ 0x03 ∷ 0x10 ∷ syn_of c ∷ etb_of c ∷ 0x1F ∷ []

pub signs_different : (c : Code) → are_different (signs_of c) ≡ true
signs_different Koi7 = refl
signs_different Dkoi = refl

pub signs_below_80 : (c : Code) → are_below 0x80 (signs_of c) ≡ true
signs_below_80 Koi7 = refl
signs_below_80 Dkoi = refl

abbrev pub table_of : Code → CodeTable
table_of c =
    record {
      seven_bit = has_seven_bits c;
      SOH = 0x01;
      STX = 0x02;
      ETX = 0x03;
      DLE = 0x10;
      SYN = syn_of c;
      ETB = etb_of c;
      US = 0x1F;
      different = signs_different c;
      below_80 = signs_below_80 c;
    }

abbrev pub koi7 : CodeTable
koi7 = table_of Koi7

abbrev pub dkoi : CodeTable
dkoi = table_of Dkoi

-- the class of a character: a sign, or any other
pub data Sign : Type 0 where
  soh stx etx dle syn etb us other : Sign

unfoldable pub sign_of : CodeTable → ℕ → Sign
sign_of t b =
    cond (eqb b t.SOH) soh
    (cond (eqb b t.STX) stx
    (cond (eqb b t.ETX) etx
    (cond (eqb b t.DLE) dle
    (cond (eqb b t.SYN) syn
    (cond (eqb b t.ETB) etb
    (cond (eqb b t.US) us other))))))

abbrev pub is_syn : Sign → Bool
is_syn soh = false
is_syn stx = false
is_syn etx = false
is_syn dle = false
is_syn syn = true
is_syn etb = false
is_syn us = false
is_syn other = false

abbrev pub is_dle : Sign → Bool
is_dle soh = false
is_dle stx = false
is_dle etx = false
is_dle dle = true
is_dle syn = false
is_dle etb = false
is_dle us = false
is_dle other = false

abbrev pub end_byte : CodeTable → EndSign → ℕ
end_byte t Etx = t.ETX
end_byte t Etb = t.ETB
end_byte t Us = t.US
