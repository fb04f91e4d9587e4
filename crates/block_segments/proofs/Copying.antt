-- Loops that store the characters of a segment: what is left, laid over the output, gives the whole. Assumes nothing.
use mathlib.Core.Path.{◌≡◌, refl, sym, ap, ap₂, ◌∙◌}
use Prim.Native.Nat.{ℕ, zero, suc, min, ◌+◌, ◌-◌, ◌≤◌, ◌<◌}
use native.Mathlib.Numerals.{add-one}
use native.Mathlib.Omega.{arith}
use mathlib.Core.Bool.{Bool, true, false}
use mathlib.Core.List.{List, [], ◌∷◌, ◌++◌, map, append-nil}
use borrow.Author.Tests.{leb-true, leb-false}
use lib.Dec.{leb}
use lib.ListN.{length, length-set, length-drop, set, get_or, take, drop, drop_of_length-le, length-append, length-map}
use lib.Seq.{drop-cons, sets, set_out, take_all}
use Rattle.bits.specs.Differences.{cons_if}
use Rattle.block.proofs.Lists.{sets_append, map-append}
use Rattle.block_framing.specs.Framings.{kept_bytes}
use Rattle.block_segments.specs.declared.kept.Keeping.{Keeping}
use Rattle.block_segments.specs.Kept.{keeps, after, kept_of}

-- stores past the end change nothing
pub sets_past : (vs l : List ℕ) (n : ℕ) → length l ≤ n → sets l n vs ≡ l
sets_past [] l n h = refl
sets_past (v ∷ vs) l n h = ap (λ z. sets z (suc n) vs) (set_out l n v h) ∙ sets_past vs l (suc n) (omega (arith, h))

-- ---- the kept bytes

-- what is left, laid over the output from n on, gives the whole
pub record Copying (whole before out left : List ℕ) (n : ℕ) : Type 0 where
  pub size : length out ≡ length before
  pub places : n + length left ≡ length whole
  pub rest : sets out n left ≡ sets before 0 whole

module _ {whole before out left : List ℕ} {n : ℕ} (w : Copying whole before out left n) where
  some_copied : (xs : List ℕ) {left' out' : List ℕ} {n' : ℕ} → left ≡ xs ++ left' → n' ≡ n + length xs → out' ≡ sets out n xs → length out' ≡ length out
      → Copying whole before out' left' n'
  some_copied xs {left'} {out'} {n'} e p q l =
      record {
        size = l ∙ w.size;
        places = omega (arith, w.places, p, ap length e, length-append xs left');
        rest = ap₂ (λ x y. sets x y left') q p ∙ sym (sets_append xs left' out n) ∙ sym (ap (sets out n) e) ∙ w.rest;
      }

  pub stored : left ≡ [] → (n ≡ length whole) × (out ≡ sets before 0 whole)
  stored e = (omega (arith, w.places, ap length e), sym (ap (sets out n) e) ∙ w.rest)

map-kept : (f : ℕ → ℕ) (t : Bool) (b : ℕ) (bs : List ℕ) → map f (cons_if t b bs) ≡ cons_if t (f b) [] ++ map f bs
map-kept f true b bs = refl
map-kept f false b bs = refl

module _ (f : ℕ → ℕ) (k : Keeping) (part : List ℕ) (i : ℕ) {whole before out : List ℕ} {n : ℕ} (w : Copying whole before out (map f (kept_of k (drop i part))) n) where
  pub copied : i < length part → {keep : Bool} {char : ℕ} {k' : Keeping} → keep ≡ keeps k (get_or part i 0) → char ≡ f (get_or part i 0) → k' ≡ after k (get_or part i 0)
      → {out' : List ℕ} {n' : ℕ} → n' ≡ n + length (cons_if keep char []) → out' ≡ sets out n (cons_if keep char []) → length out' ≡ length out
      → Copying whole before out' (map f (kept_of k' (drop (i + 1) part))) n'
  unfolding kept_bytes
  copied h {keep} {char} {k'} e c s p q l =
      let b = get_or part i 0 in
      let next : map f (kept_of k (drop i part)) ≡ cons_if keep char [] ++ map f (kept_of k' (drop (i + 1) part)) =
      ap (λ bs. map f (kept_of k bs)) (drop-cons part i 0 h) ∙ map-kept f (keeps k b) b (kept_of (after k b) (drop (suc i) part))
      ∙ ap₂ (λ t x. cons_if t x [] ++ map f (kept_of (after k b) (drop (suc i) part))) (sym e) (sym c)
      ∙ ap₂ (λ y m. cons_if keep char [] ++ map f (kept_of y (drop m part))) (sym s) (sym (add-one i)) in
      some_copied w (cons_if keep char []) next p q l

  pub all_kept : length part ≤ i → map f (kept_of k (drop i part)) ≡ []
  unfolding kept_bytes
  all_kept h = ap (λ bs. map f (kept_of k bs)) (drop_of_length-le part h)

-- ---- every byte

pub record CopyingAll (f : ℕ → ℕ) (part before out : List ℕ) (i : ℕ) : Type 0 where
  pub kept : length out ≡ length before
  pub rest : sets out i (map f (drop i part)) ≡ sets before 0 (map f part)

module _ (f : ℕ → ℕ) (part : List ℕ) (i : ℕ) {before out : List ℕ} (w : CopyingAll f part before out i) where
  pub all_copied : i < length part → {char : ℕ} → char ≡ f (get_or part i 0) → CopyingAll f part before (set out i char) (i + 1)
  all_copied h {char} c =
      record {
        kept = length-set out i char ∙ w.kept;
        rest =
            ap (λ n. sets (set out i char) n (map f (drop n part))) (add-one i)
            ∙ ap (λ x. sets out i (x ∷ map f (drop (suc i) part))) c
            ∙ sym (ap (λ l. sets out i (map f l)) (drop-cons part i 0 h)) ∙ w.rest;
      }

  -- all of the segment is stored, or the output is full
  pub all-stored : min (length part) (length before) ≤ i → out ≡ sets before 0 (map f part)
  all-stored h = go (leb (length part) i) refl
    where
      go : (t : Bool) → leb (length part) i ≡ t → out ≡ sets before 0 (map f part)
      go true e = sym (ap (λ l. sets out i (map f l)) (drop_of_length-le part {i = i} (leb-true (length part) i e))) ∙ w.rest
      go false e = sym (sets_past (map f (drop i part)) out i (omega (arith, w.kept, h, leb-false (length part) i e))) ∙ w.rest

-- ---- two segments one behind the other

sets_cons : (vs : List ℕ) (x : ℕ) (xs : List ℕ) (n : ℕ) → sets (x ∷ xs) (suc n) vs ≡ x ∷ sets xs n vs
sets_cons [] x xs n = refl
sets_cons (v ∷ vs) x xs n = sets_cons vs x (set xs n v) (suc n)

sets_at : (vs out : List ℕ) (n : ℕ) → n ≤ length out → take n out ++ sets (drop n out) 0 vs ≡ sets out n vs
sets_at vs out zero h = refl
sets_at vs [] (suc n) h = absurd (omega (arith, h))
sets_at vs (x ∷ xs) (suc n) h = ap (λ l. x ∷ l) (sets_at vs xs n (omega (arith, h))) ∙ sym (sets_cons vs x xs n)

module _ (g : ℕ → ℕ) (out xs ys : List ℕ) {n : ℕ} {out₁ : List ℕ} (e : n ≡ length xs) (s : out₁ ≡ sets out 0 (map g xs)) where
  then_at : sets out₁ n (map g ys) ≡ sets out 0 (map g (xs ++ ys))
  then_at =
      let k : n ≡ 0 + length (map g xs) = omega (arith, e, length-map xs g) in
      ap₂ (λ l i. sets l i (map g ys)) s k ∙ sym (sets_append (map g xs) (map g ys) out 0) ∙ sym (ap (sets out 0) (map-append g xs ys))

  -- the second is stored into the part behind the first
  pub both_stored : n < length out₁ → {part : List ℕ} → part ≡ sets (take (length out₁ - n) (drop n out₁)) 0 (map g ys)
      → take n out₁ ++ (part ++ drop (length out₁ - n) (drop n out₁)) ≡ sets out 0 (map g (xs ++ ys))
  both_stored h {part} t =
      let some : length (drop n out₁) ≤ length out₁ - n = omega (arith, length-drop n out₁) in
      ap₂ (λ x y. take n out₁ ++ (x ++ y)) (t ∙ ap (λ l. sets l 0 (map g ys)) (take_all (length out₁ - n) (drop n out₁) some)) (drop_of_length-le (drop n out₁) some)
      ∙ ap (λ x. take n out₁ ++ x) (append-nil (sets (drop n out₁) 0 (map g ys)))
      ∙ sets_at (map g ys) out₁ n (omega (arith, h)) ∙ then_at

  -- there is no place for the second
  pub first_fills : length out₁ ≤ n → out₁ ≡ sets out 0 (map g (xs ++ ys))
  first_fills h = sym (sets_past (map g ys) out₁ n h) ∙ then_at
