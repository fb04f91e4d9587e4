-- The seven values of a table are different and below 80, and each has its sign. Assumes nothing.
use mathlib.Core.Path.{◌≡◌, refl, sym}
use Prim.Native.Nat.{ℕ, zero, suc, ◌<◌}
use native.Mathlib.Omega.{arith}
use mathlib.Core.Bool.{true, false, not}
use mathlib.Core.List.{List, [], ◌∷◌}
use lib.Dec.{eqb, ltb}
use lib.ListN.{length, get_or}
use borrow.Author.Tests.{both_ways, not-true, ltb-true, ne_eqb, eq-eqb}
use Rattle.std.proofs.lemmas.Bool.{and_parts, or_parts}
use Rattle.block.specs.Signs.{is_among, are_different, are_below, CodeTable, soh, stx, etx, dle, syn, etb, us, sign_of}

not_among : (n : ℕ) (ns : List ℕ) → is_among ns n ≡ false → (j : ℕ) → j < length ns → n ≡ get_or ns j 0 → ⊥
not_among n [] e j h q = elim h [ ]
not_among n (m ∷ ms) e zero h q = both_ways (eqb n m) (or_parts (eqb n m) (is_among ms n) e).0 (eq-eqb n m q)
not_among n (m ∷ ms) e (suc j) h q = not_among n ms (or_parts (eqb n m) (is_among ms n) e).1 j (omega (arith, h)) q

before : (ns : List ℕ) → are_different ns ≡ true → (i j : ℕ) → i < j → j < length ns → get_or ns i 0 ≡ get_or ns j 0 → ⊥
before [] e i j h k q = elim k [ ]
before (n ∷ ns) e zero zero h k q = elim h [ ]
before (n ∷ ns) e (suc i) zero h k q = elim h [ ]
before (n ∷ ns) e zero (suc j) h k q =
    not_among n ns (not-true (is_among ns n) (and_parts (not (is_among ns n)) (are_different ns) e).0) j (omega (arith, k)) q
before (n ∷ ns) e (suc i) (suc j) h k q =
    before ns (and_parts (not (is_among ns n)) (are_different ns) e).1 i j (omega (arith, h)) (omega (arith, k)) q

below : (most : ℕ) (ns : List ℕ) → are_below most ns ≡ true → (j : ℕ) → j < length ns → get_or ns j 0 < most
below most [] e j h = elim h [ ]
below most (n ∷ ns) e zero h = ltb-true n most (and_parts (ltb n most) (are_below most ns) e).0
below most (n ∷ ns) e (suc j) h = below most ns (and_parts (ltb n most) (are_below most ns) e).1 j (omega (arith, h))

module _ (t : CodeTable) where
  abbrev values : List ℕ
  values = t.SOH ∷ t.STX ∷ t.ETX ∷ t.DLE ∷ t.SYN ∷ t.ETB ∷ t.US ∷ []

  -- two of the seven, by their places
  pub differ : (i j : ℕ) → ltb i j ≡ true → ltb j 7 ≡ true → eqb (get_or values i 0) (get_or values j 0) ≡ false
  differ i j h k = ne_eqb _ _ (before values t.different i j (ltb-true i j h) (ltb-true j 7 k))

  pub differ_back : (i j : ℕ) → ltb i j ≡ true → ltb j 7 ≡ true → eqb (get_or values j 0) (get_or values i 0) ≡ false
  differ_back i j h k = ne_eqb _ _ (λ q. before values t.different i j (ltb-true i j h) (ltb-true j 7 k) (sym q))

  pub value-below : (i : ℕ) → ltb i 7 ≡ true → get_or values i 0 < 0x80
  value-below i h = below 0x80 values t.below_80 i (ltb-true i 7 h)

  pub sign_soh : sign_of t t.SOH ≡ soh
  unfolding sign_of
  sign_soh = simp (eq-eqb t.SOH t.SOH refl)

  pub sign_stx : sign_of t t.STX ≡ stx
  unfolding sign_of
  sign_stx = simp (differ_back 0 1 refl refl, eq-eqb t.STX t.STX refl)

  pub sign_etx : sign_of t t.ETX ≡ etx
  unfolding sign_of
  sign_etx = simp (differ_back 0 2 refl refl, differ_back 1 2 refl refl, eq-eqb t.ETX t.ETX refl)

  pub sign_dle : sign_of t t.DLE ≡ dle
  unfolding sign_of
  sign_dle = simp (differ_back 0 3 refl refl, differ_back 1 3 refl refl, differ_back 2 3 refl refl, eq-eqb t.DLE t.DLE refl)

  pub sign_syn : sign_of t t.SYN ≡ syn
  unfolding sign_of
  sign_syn =
      simp (differ_back 0 4 refl refl, differ_back 1 4 refl refl, differ_back 2 4 refl refl, differ_back 3 4 refl refl, eq-eqb t.SYN t.SYN refl)

  pub sign_etb : sign_of t t.ETB ≡ etb
  unfolding sign_of
  sign_etb =
      simp (
        differ_back 0 5 refl refl,
        differ_back 1 5 refl refl,
        differ_back 2 5 refl refl,
        differ_back 3 5 refl refl,
        differ_back 4 5 refl refl,
        eq-eqb t.ETB t.ETB refl,
      )

  pub sign_us : sign_of t t.US ≡ us
  unfolding sign_of
  sign_us =
      simp (
        differ_back 0 6 refl refl,
        differ_back 1 6 refl refl,
        differ_back 2 6 refl refl,
        differ_back 3 6 refl refl,
        differ_back 4 6 refl refl,
        differ_back 5 6 refl refl,
        eq-eqb t.US t.US refl,
      )
