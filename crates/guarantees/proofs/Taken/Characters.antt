-- Characters that were read: each is sent again by the byte it was read from, since the parity of that byte is right; and what its
-- sign says of it. Assumes nothing.
use mathlib.Core.Path.{◌≡◌, refl, sym}
use Prim.Native.Nat.{ℕ, ◌%◌, ◌<◌}
use native.Mathlib.Omega.{arith}
use mathlib.Core.Bool.{Bool, true, false, beq, cond, not, ◌||◌, true≢false, xor}
use mathlib.Core.List.{List, [], ◌∷◌}
use lib.Dec.{T, eqb}
use borrow.Author.Tests.{eqb-true, lt-ltb}
use Rattle.bits.specs.Strings.{parity}
use Rattle.bits.specs.Bytes.{low_bits, Bytes}
use Rattle.bits.specs.Differences.{Each}
use Rattle.division.proofs.Order.{all, all_at}
use Rattle.block.specs.declared.Parity.{Parity}
use Rattle.block.specs.declared.Parity.TheVariants.{Even, Odd}
use Rattle.block.specs.Signs.{CodeTable, Sign, soh, stx, etx, dle, syn, etb, us, other, sign_of}
use Rattle.block.specs.Characters.{character, is_odd, with_parity, sent}
use Rattle.block.specs.Write.{is_free}
use Rattle.block.proofs.Passed.{ParitiesRight}

-- ---- the byte of a character

-- tried at every byte
abbrev is_resent : Parity → ℕ → Bool
is_resent p b = not (beq (parity (low_bits 8 b)) (is_odd p)) || eqb (with_parity p (b % 128)) b

all_resent : (p : Parity) → T (all (is_resent p) 256)
unfolding low_bits with_parity xor
all_resent Even = tt
all_resent Odd = tt

with_parity_again : (p : Parity) (b : ℕ) → b < 256 → parity (low_bits 8 b) ≡ is_odd p → with_parity p (b % 128) ≡ b
with_parity_again p b h e = go (parity (low_bits 8 b)) (is_odd p) (eqb (with_parity p (b % 128)) b) refl e (all_at (is_resent p) 256 b (all_resent p) h)
  where
    go : (x y t : Bool) → eqb (with_parity p (b % 128)) b ≡ t → x ≡ y → T (not (beq x y) || t) → with_parity p (b % 128) ≡ b
    go x y true q e k = eqb-true _ _ q
    go true true false q e k = absurd k
    go true false false q e k = absurd (true≢false e)
    go false true false q e k = absurd (true≢false (sym e))
    go false false false q e k = absurd k

-- each byte of a line is the one by which its character is sent
abbrev pub Resent : Bool → Parity → List ℕ → Type 0
Resent seven p = Each (λ b. sent seven p (character seven b) ≡ b)

pub resent : (seven : Bool) (p : Parity) (line : List ℕ) → Bytes line → (seven ≡ true → ParitiesRight p line) → Resent seven p line
unfolding sent character
resent seven p [] b r = tt
resent true p (x ∷ line) b r = (with_parity_again p x b.0 (r refl).0, resent true p line b.1 (λ e. (r e).1))
resent false p (x ∷ line) b r = (refl, resent false p line b.1 (λ e. absurd (true≢false (sym e))))

-- ---- the character of a sign

-- what the sign of a character says of it
abbrev pub OfSign : CodeTable → Sign → ℕ → Type 0
OfSign table soh c = c ≡ table.SOH
OfSign table stx c = c ≡ table.STX
OfSign table etx c = c ≡ table.ETX
OfSign table dle c = c ≡ table.DLE
OfSign table syn c = c ≡ table.SYN
OfSign table etb c = c ≡ table.ETB
OfSign table us c = c ≡ table.US
OfSign table other c = eqb c table.DLE ≡ false

else_sign : (table : CodeTable) (c v : ℕ) (s r : Sign) → (c ≡ v → OfSign table s c) → (eqb c v ≡ false → OfSign table r c) → OfSign table (cond (eqb c v) s r) c
else_sign table c v s r h k = go (eqb c v) refl
  where
    go : (t : Bool) → eqb c v ≡ t → OfSign table (cond t s r) c
    go true e = h (eqb-true c v e)
    go false e = k e

pub of_sign : (table : CodeTable) (c : ℕ) → OfSign table (sign_of table c) c
unfolding sign_of
of_sign table c =
    else_sign table c table.SOH soh _ (λ e. e) (λ _.
    else_sign table c table.STX stx _ (λ e. e) (λ _.
    else_sign table c table.ETX etx _ (λ e. e) (λ _.
    else_sign table c table.DLE dle _ (λ e. e) (λ d.
    else_sign table c table.SYN syn _ (λ e. e) (λ _.
    else_sign table c table.ETB etb _ (λ e. e) (λ _.
    else_sign table c table.US us other (λ e. e) (λ _. d)))))))

-- ---- characters that are no signs

pub other_free : (table : CodeTable) (seven : Bool) (b : ℕ) → sign_of table (character seven b) ≡ other → is_free table seven (character seven b) ≡ true
unfolding is_free character
other_free table true b e = rw (e, lt-ltb (b % 128) 0x80 (omega arith))
other_free table false b e = rw e
