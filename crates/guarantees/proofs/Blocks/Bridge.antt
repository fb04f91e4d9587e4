-- The bridge of blocks: with one framing, equal bytes are left out at equal places, so one mask selects the checked bits of both
-- lines. Assumes nothing.
use mathlib.Core.Path.{◌≡◌, refl, sym, ap, ap₂, subst, ◌∙◌}
use Prim.Native.Nat.{ℕ, ◌+◌, ◌*◌, ◌≤◌}
use native.Mathlib.Omega.{arith}
use mathlib.Core.Bool.{Bool, true, false, not}
use mathlib.Core.List.{List, [], ◌∷◌, ◌++◌, head-eq_of_cons-eq, tail-eq_of_cons-eq}
use lib.ListN.{length, replicate, length-append, length-drop}
use Rattle.bits.specs.Bytes.{low_bits, bits_of}
use Rattle.bits.specs.Differences.{cons_if}
use Rattle.bits.proofs.Bytes.{length-low_bits, length-bits_of, bits_of_injective}
use Rattle.block.specs.declared.Method.{Method}
use Rattle.block.specs.declared.Parity.{Parity}
use Rattle.block.specs.declared.Mark.{Mark}
use Rattle.block.specs.Signs.{CodeTable}
use Rattle.block.specs.Marks.{is_counted, counted, check_bytes, LeftOutByte, left_out_if, left_out}
use Rattle.block.specs.Check.{check_length}
use Rattle.block.proofs.Passed.{Passed, passed}
use Rattle.guarantees.specs.Blocks.{checked_in, checked_bits, checked_bytes, each_eight, is_checked_in, is_checked, blocks}
use Rattle.guarantees.proofs.Lines.Masks.{select, select-append, select_inside, select_outside, Agree, nothing, agree_append, agree_inside, agree_outside, Bridge}
use Rattle.guarantees.proofs.Blocks.Framing.{Found, one_framing}

-- ---- the mask of a line selects its checked bits

select-byte : (t : Bool) (b : ℕ) (ms : List Bool) (x c r : List ℕ) → select ms (bits_of x) ≡ bits_of (c ++ r)
    → select (replicate 8 t ++ ms) (bits_of (b ∷ x)) ≡ bits_of (cons_if t b c ++ r)
unfolding bits_of
select-byte true b ms x c r e =
    select-append (replicate 8 true) ms (low_bits 8 b) (bits_of x) (sym (length-low_bits 8 b))
    ∙ ap₂ ◌++◌ (select_inside 8 (low_bits 8 b) (length-low_bits 8 b)) e
select-byte false b ms x c r e =
    select-append (replicate 8 false) ms (low_bits 8 b) (bits_of x) (sym (length-low_bits 8 b))
    ∙ ap₂ ◌++◌ (select_outside 8 (low_bits 8 b)) e

select-checked : (ks : List Mark) (x : List ℕ)
    → select (each_eight (checked_bytes ks x)) (bits_of x) ≡ bits_of (counted ks x ++ check_bytes ks x)
unfolding bits_of
select-checked [] [] = refl
select-checked [] (b ∷ x) = select-byte true b (each_eight (checked_bytes [] x)) x [] x (select-checked [] x)
select-checked (k ∷ ks) [] = refl
select-checked (k ∷ ks) (b ∷ x) =
    select-byte (is_counted k) b (each_eight (checked_bytes ks x)) x (counted ks x) (check_bytes ks x) (select-checked ks x)

-- ---- one framing, one mask

-- no place stands before n
abbrev PlacesFrom : ℕ → List LeftOutByte → Type 0
PlacesFrom n [] = Unit
PlacesFrom n (o ∷ os) = (n ≤ o.place) × PlacesFrom n os

places_before : (n : ℕ) (os : List LeftOutByte) → PlacesFrom (n + 1) os → PlacesFrom n os
places_before n [] h = tt
places_before n (o ∷ os) h = (omega (arith, h.0), places_before n os h.1)

places_from : (at : ℕ) (ks : List Mark) (x : List ℕ) → PlacesFrom at (left_out at ks x)
places_from at [] x = tt
places_from at (k ∷ ks) [] = tt
places_from at (k ∷ ks) (b ∷ x) = go (not (is_counted k)) (places_before at (left_out (at + 1) ks x) (places_from (at + 1) ks x))
  where
    go : (t : Bool) → PlacesFrom at (left_out (at + 1) ks x)
        → PlacesFrom at (left_out_if t (record { place = at; value = b }) (left_out (at + 1) ks x))
    go true h = (omega arith, h)
    go false h = h

not_there : (at b : ℕ) (os ps : List LeftOutByte) → PlacesFrom (at + 1) os → os ≡ record { place = at; value = b } ∷ ps → ⊥
not_there at b os ps h e = omega (arith, (subst (PlacesFrom (at + 1)) e h).0)

-- two byte strings under one mask, outside which they agree
record OneMask (ms ns : List Bool) (x y : List ℕ) : Type 0 where
  one_mask : ms ≡ ns
  agree : Agree (each_eight ms) (bits_of x) (bits_of y)

module _ {ms ns : List Bool} {x y : List ℕ} (h : OneMask ms ns x y) where
  checked-byte : (a b : ℕ) → OneMask (true ∷ ms) (true ∷ ns) (a ∷ x) (b ∷ y)
  unfolding bits_of
  checked-byte a b =
      record {
        one_mask = ap (λ z. true ∷ z) h.one_mask;
        agree = agree_append (agree_inside 8 (low_bits 8 a) (low_bits 8 b) (length-low_bits 8 a) (length-low_bits 8 b)) h.agree;
      }

  left_out-byte : (a : ℕ) → OneMask (false ∷ ms) (false ∷ ns) (a ∷ x) (a ∷ y)
  unfolding bits_of
  left_out-byte a =
      record {
        one_mask = ap (λ z. false ∷ z) h.one_mask;
        agree = agree_append (agree_outside 8 (low_bits 8 a) (length-low_bits 8 a)) h.agree;
      }

no_byte : OneMask [] [] [] []
unfolding bits_of
no_byte = record { one_mask = refl; agree = nothing }

one_byte : (at a b : ℕ) (ms ns : List Bool) (x y : List ℕ) (os ps : List LeftOutByte) → PlacesFrom (at + 1) os → PlacesFrom (at + 1) ps
    → (os ≡ ps → OneMask ms ns x y) → (s t : Bool)
    → left_out_if (not s) (record { place = at; value = a }) os ≡ left_out_if (not t) (record { place = at; value = b }) ps
    → OneMask (s ∷ ms) (t ∷ ns) (a ∷ x) (b ∷ y)
one_byte at a b ms ns x y os ps ho hp rest true true e = checked-byte (rest e) a b
one_byte at a b ms ns x y os ps ho hp rest true false e = absurd (not_there at b os ps ho e)
one_byte at a b ms ns x y os ps ho hp rest false true e = absurd (not_there at a ps os hp (sym e))
one_byte at a b ms ns x y os ps ho hp rest false false e =
    let v : a ≡ b = ap (λ (o : LeftOutByte). o.value) (head-eq_of_cons-eq e) in
    subst (λ n. OneMask (false ∷ ms) (false ∷ ns) (a ∷ x) (n ∷ y)) v (left_out-byte (rest (tail-eq_of_cons-eq e)) a)

masks : (at : ℕ) (ks js : List Mark) (x y : List ℕ) → length ks ≡ length js → length x ≡ length y → left_out at ks x ≡ left_out at js y
    → OneMask (checked_bytes ks x) (checked_bytes js y) x y
masks at [] (j ∷ js) x y h l e = absurd (omega arith)
masks at (k ∷ ks) [] x y h l e = absurd (omega arith)
masks at [] [] [] [] h l e = no_byte
masks at [] [] [] (b ∷ y) h l e = absurd (omega arith)
masks at [] [] (a ∷ x) [] h l e = absurd (omega arith)
masks at [] [] (a ∷ x) (b ∷ y) h l e = checked-byte (masks at [] [] x y refl (omega arith) refl) a b
masks at (k ∷ ks) (j ∷ js) [] [] h l e = no_byte
masks at (k ∷ ks) (j ∷ js) [] (b ∷ y) h l e = absurd (omega arith)
masks at (k ∷ ks) (j ∷ js) (a ∷ x) [] h l e = absurd (omega arith)
masks at (k ∷ ks) (j ∷ js) (a ∷ x) (b ∷ y) h l e =
    one_byte at a b (checked_bytes ks x) (checked_bytes js y) x y (left_out (at + 1) ks x) (left_out (at + 1) js y)
    (places_from (at + 1) ks x)
    (places_from (at + 1) js y)
    (masks (at + 1) ks js x y (omega arith) (omega arith)) (is_counted k) (is_counted j) e

-- ---- lines

module _ (table : CodeTable) (m : Method) (p : Parity) (line : List ℕ) (r : Found table m p line) where
  pub checked_bits_lem : checked_bits table m p line ≡ bits_of (counted r.marks line ++ check_bytes r.marks line)
  unfolding checked_bits
  checked_bits_lem = ap (checked_in line) r.is_found

  is_checked_lem : is_checked table m p line ≡ each_eight (checked_bytes r.marks line)
  unfolding is_checked
  is_checked_lem = ap (is_checked_in line) r.is_found

  pub all-passed : Passed table m p line r.marks r.field r.end
  all-passed = passed table m p line r.marks r.field r.end r.is_found

  pub checked-length : length (checked_bits table m p line) ≡ 8 * (length (counted r.marks line) + check_length m)
  checked-length =
      let c = counted r.marks line in
      let k = check_bytes r.marks line in
      let n : length k ≡ check_length m = length-drop (length r.marks) line ∙ omega (arith, all-passed.closes) in
      ap length checked_bits_lem ∙ length-bits_of (c ++ k) ∙ ap (λ z. 8 * z) (length-append c k ∙ ap (λ z. length c + z) n)

  selected : select (is_checked table m p line) (bits_of line) ≡ checked_bits table m p line
  selected = ap (λ z. select z (bits_of line)) is_checked_lem ∙ select-checked r.marks line ∙ sym checked_bits_lem

pub block_bridge : (table : CodeTable) (m : Method) (p : Parity) → Bridge (blocks table m p)
block_bridge table m p A B s =
    let o = one_framing table m p A B s in
    let ka = o.a.marks in
    let kb = o.b.marks in
    let n : length ka ≡ length kb = omega (arith, (all-passed table m p A o.a).closes, (all-passed table m p B o.b).closes, s.one_length) in
    let one = masks 0 ka kb A B n s.one_length o.one_left_out in
    let i : is_checked table m p A ≡ is_checked table m p B = is_checked_lem table m p A o.a ∙ ap each_eight one.one_mask ∙ sym (is_checked_lem table m p B o.b) in
    record {
      agree = rw (is_checked_lem table m p A o.a) one.agree;
      first = selected table m p A o.a;
      second = ap (λ z. select z (bits_of B)) i ∙ selected table m p B o.b;
      injective = bits_of_injective A B s.lines.0 s.lines.1 s.one_length;
    }
