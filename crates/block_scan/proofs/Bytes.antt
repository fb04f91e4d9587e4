-- A byte of a run, as code tests it. Assumes nothing.
use mathlib.Core.Path.{◌≡◌, refl, ap, ◌∙◌}
use Prim.Native.Nat.{ℕ, min, zero, suc, ◌+◌, ◌≤◌, ◌<◌}
use native.Mathlib.Omega.{arith}
use mathlib.Core.Bool.{Bool, true, false, cond, not, ◌&&◌, ◌||◌}
use mathlib.Core.List.{List, [], ◌∷◌}
use lib.Bits.{bit_xor, xor_self}
use lib.Dec.{eqb, ltb}
use lib.ListN.{get_or}
use borrow.Author.Count.{below_more}
use borrow.Author.Tests.{ltb-true, eqb-false, ne_eqb, not-true}
use Rattle.block.specs.Signs.{CodeTable, koi7, soh, stx, etx, dle, syn, etb, us, other, sign_of}
use Rattle.block.specs.Characters.{character}
use Rattle.block.specs.Write.{is_other, is_free}
use Rattle.block.specs.Scan.{first_failing, AllPass}
use Rattle.block.proofs.NoSign.{NoSign, no_sign, above_koi7}
use Rattle.std.proofs.lemmas.Bool.{and_parts}
use Rattle.block.proofs.Scans.{scan_same}
use Rattle.block.proofs.SignTests.{dle_test}
use Rattle.block_scan.specs.Tests.{is_plain_byte, is_clear_byte, OffSigns}

-- what differs from each of seven is none of them
each_off : (a b c d e f g : Bool)
    → not a && not b && not c && not d && (not e && not f && not g)
    ≡ is_other (cond a soh (cond b stx (cond c etx (cond d dle (cond e syn (cond f etb (cond g us other)))))))
each_off true b c d e f g = refl
each_off false true c d e f g = refl
each_off false false true d e f g = refl
each_off false false false true e f g = refl
each_off false false false false true f g = refl
each_off false false false false false true g = refl
each_off false false false false false false true = refl
each_off false false false false false false false = refl

off : (b sign : ℕ) → 0 < bit_xor b sign → b ≡ sign → ⊥
off b sign h e = omega (arith, ap (λ x. bit_xor x sign) e ∙ xor_self sign)

off_none : (b : ℕ) → OffSigns b → NoSign koi7 b
off_none b h =
    (((((((tt, off b koi7.SOH h.soh), off b koi7.STX h.stx), off b koi7.DLE h.dle), off b koi7.SYN h.syn), off b koi7.ETX h.etx), off b koi7.ETB h.etb), off b koi7.US h.us)

positive : (n : ℕ) → (n ≡ 0 → ⊥) → 0 < n
positive zero h = absurd (h refl)
positive (suc n) h = omega arith

pub no_sign_byte : (c : ℕ)
    → not (eqb c 0x01) && not (eqb c 0x02) && not (eqb c 0x03) && not (eqb c 0x10) && (not (eqb c 0x16) && not (eqb c 0x17) && not (eqb c 0x1F))
    ≡ is_other (sign_of koi7 c)
unfolding sign_of
no_sign_byte c = each_off (eqb c 0x01) (eqb c 0x02) (eqb c 0x03) (eqb c 0x10) (eqb c 0x16) (eqb c 0x17) (eqb c 0x1F)

-- a byte whose character is c, or has a place with the sign of c
pub plain_byte : (t : CodeTable) (seven low : Bool) (b : ℕ) {c : ℕ} {free : Bool} → free ≡ is_other (sign_of t c) → c ≡ character seven b
    → free && (not low || ltb b 0x80) ≡ is_plain_byte t seven low b
unfolding is_plain_byte
plain_byte t seven low b f char = ap (λ x. x && (not low || ltb b 0x80)) (f ∙ ap (λ x. is_other (sign_of t x)) char)

module _ (seven low : Bool) (b : ℕ) {c : ℕ} (char : c ≡ character seven b) where
  -- what is above the greatest sign is none
  pub above_plain : (ltb 0x1F c && (not low || ltb b 0x80)) ≡ true → is_plain_byte koi7 seven low b ≡ true
  unfolding is_plain_byte
  above_plain e =
      let p = and_parts (ltb 0x1F c) (not low || ltb b 0x80) e in
      rw (← char, above_koi7 c (ltb-true 0x1F c p.0), p.1)

  -- what differs from every sign is none
  off_plain : OffSigns c → (not low || ltb b 0x80) ≡ true → is_plain_byte koi7 seven low b ≡ true
  unfolding is_plain_byte
  off_plain h e = rw (← char, no_sign koi7 c (off_none c h), e)

  -- one byte more, where all were below 80 and the least was not 0
  pub least_plain : (below : Bool) (least : ℕ) {next far : ℕ} → (0 < far → OffSigns c) → next ≡ min least far
      → ((below && (not low || ltb b 0x80)) && not (eqb next 0)) ≡ true → ((below && not (eqb least 0)) ≡ true) × (is_plain_byte koi7 seven low b ≡ true)
  least_plain below least {next} {far} each h e =
      let p = and_parts (below && (not low || ltb b 0x80)) (not (eqb next 0)) e in
      let q = and_parts below (not low || ltb b 0x80) p.0 in
      let n : next ≡ 0 → ⊥ = eqb-false next 0 (not-true (eqb next 0) p.1) in
      (rw (q.0, ne_eqb least 0 (λ z. n (omega (arith, h)))), off_plain (each (positive far (λ z. n (omega (arith, h))))) q.1)

pub clear_byte : (t : CodeTable) (seven : Bool) (b : ℕ) {c : ℕ} → c ≡ character seven b → not (eqb c t.DLE) ≡ is_clear_byte t seven b
unfolding is_clear_byte
clear_byte t seven b char = ap (λ x. not (eqb x t.DLE)) char ∙ ap not (dle_test t (character seven b))

-- the test of a part to be written is the rule's
pub plain_free : (t : CodeTable) (seven : Bool) (at : ℕ) (part : List ℕ) → first_failing (is_plain_byte t false seven) at part ≡ first_failing (is_free t seven) at part
unfolding is_plain_byte is_free character
plain_free t seven at part = scan_same (λ b. refl) at part

-- a field without data
pub no_run : {test : ℕ → Bool} (l : List ℕ) → ((b : ℕ) → test b ≡ false) → first_failing test 0 l ≡ 0
unfolding first_failing
no_run [] h = refl
no_run (b ∷ l) h = rw (h b)

-- one byte more of those passed over, whatever is true only where all before it and it are data
pub one_more : (test : ℕ → Bool) (l : List ℕ) {i : ℕ} {all next : Bool} → (all ≡ true → AllPass test l 0 i) → (next ≡ true → (all ≡ true) × (test (get_or l i 0) ≡ true))
    → next ≡ true → AllPass test l 0 (i + 1)
one_more test l {i} before here e k p q = below_more (λ j. 0 ≤ j → test (get_or l j 0) ≡ true) i (λ j r z. before (here e).0 j z r) (λ z. (here e).1) k (omega (arith, q)) p
