-- Bytes stored one after the other: laws of `Stored`, and the loops that make and store a part. Assumes nothing.
use mathlib.Core.Path.{◌≡◌, refl, sym, ap, ap₂, ◌∙◌}
use Prim.Native.Nat.{ℕ, suc, ◌+◌, ◌≤◌, ◌<◌}
use native.Mathlib.Numerals.{add-one}
use native.Mathlib.Omega.{arith}
use mathlib.Core.Bool.{Bool, true, false}
use mathlib.Core.List.{List, [], ◌∷◌, ◌++◌, map, append_assoc, append-nil}
use lib.Dec.{eqb, ltb}
use borrow.Author.Tests.{ltb-true, ltb-false}
use lib.ListN.{length, get_or, set, take, drop, length-set, length-map, length-take, take-append-drop, drop_of_length-le}
use borrow.Rule.Slice.PartMut.{put_mid}
use lib.Seq.{drop-cons, drop-drop, set_out, sets, sets-eq, length-sets}
use Rattle.std.proofs.lemmas.List.{take_more_set}
use Rattle.std.proofs.lemmas.Grind.{take_at_read}
use Rattle.block.specs.Signs.{CodeTable}
use Rattle.block.specs.Write.{doubled, escaped}
use Rattle.block.proofs.Lists.{map-append, sets_append}
use Rattle.block_store.specs.Store.{Stored}

-- nothing is stored behind the end
sets_out : (xs l : List ℕ) (n : ℕ) → length l ≤ n → sets l n xs ≡ l
sets_out [] l n h = refl
sets_out (x ∷ xs) l n h = sets_out xs (set l n x) (suc n) (omega (arith, length-set l n x)) ∙ set_out l n x h

-- ---- stores one after the other

stored-none : {out : List ℕ} {at : ℕ} → Stored out at [] out at
stored-none = record { behind = λ rest. refl }

pub stored_as : {xs ys a b : List ℕ} {i j : ℕ} → xs ≡ ys → Stored a i xs b j → Stored a i ys b j
stored_as {a = a} {i = i} e s = record { behind = λ rest. s.behind rest ∙ ap (λ l. sets a i (l ++ rest)) e }

pub stored-append : {xs ys a b c : List ℕ} {i j k : ℕ} → Stored a i xs b j → Stored b j ys c k → Stored a i (xs ++ ys) c k
stored-append {xs} {ys} {a} {i = i} s t =
    record { behind = λ rest. t.behind rest ∙ s.behind (ys ++ rest) ∙ ap (sets a i) (sym (append_assoc xs ys rest)) }

pub length-stored : {xs a b : List ℕ} {i j : ℕ} → Stored a i xs b j → length b ≡ length a
length-stored {xs} {a} {i = i} s = ap length (s.behind []) ∙ length-sets a i (xs ++ [])

-- from the start of an output that has room
pub stored_front : {xs a b : List ℕ} {j : ℕ} → Stored a 0 xs b j → length xs ≤ length a → b ≡ xs ++ drop (length xs) a
stored_front {xs} {a} s h =
    let e : 0 + length xs ≡ length xs = omega arith in
    s.behind [] ∙ ap (sets a 0) (append-nil xs) ∙ sets-eq xs a 0 (omega arith) ∙ ap (λ k. xs ++ drop k a) e

-- one byte, with and without room
pub stored_one : (b : ℕ) (out : List ℕ) (at : ℕ) {next : ℕ} → next ≡ at + 1 → Stored out at (b ∷ []) (set out at b) next
stored_one b out at e = record { behind = λ rest. ap (λ n. sets (set out at b) n rest) (e ∙ add-one at) }

pub stored_out : (xs : List ℕ) {out : List ℕ} {at : ℕ} → length out ≤ at → Stored out at xs out at
stored_out xs {out} {at} h = record { behind = λ rest. sets_out rest out at h ∙ sym (sets_out (xs ++ rest) out at h) }

-- ---- a loop: what is left to store gives the whole

pub record Storing (before : List ℕ) (at : ℕ) (bytes after : List ℕ) (next : ℕ) (left : List ℕ) : Type 0 where
  pub same : length after ≡ length before
  pub ahead : {out : List ℕ} {n : ℕ} → Stored after next left out n → Stored before at bytes out n

pub turn : {before bytes after left out xs rest : List ℕ} {at next n : ℕ} → Storing before at bytes after next left → left ≡ xs ++ rest
    → Stored after next xs out n → Storing before at bytes out n rest
turn s e t = record { same = length-stored t ∙ s.same; ahead = λ u. s.ahead (stored_as (sym e) (stored-append t u)) }

pub whole : {before bytes after left : List ℕ} {at next : ℕ} → Storing before at bytes after next left → left ≡ []
    → Stored before at bytes after next
whole s e = s.ahead (stored_as (sym e) stored-none)

-- ---- what is left of a part: bytes, characters, and clear text

pub drop_on : (part : List ℕ) (i : ℕ) → i < length part → drop i part ≡ (get_or part i 0 ∷ []) ++ drop (i + 1) part
drop_on part i h = rw (drop-cons part i 0 h, add-one)

module _ (f : ℕ → ℕ) (part : List ℕ) (i : ℕ) where
  -- all characters, or all that have room
  pub map-all : {before bytes after : List ℕ} {at next : ℕ} → Storing before at bytes after next (map f (drop i part))
      → (i < length part → length after ≤ next) → Stored before at bytes after next
  map-all {before} {bytes} {after} {at} {next} s h = go (ltb i (length part)) refl
    where
      go : (t : Bool) → ltb i (length part) ≡ t → Stored before at bytes after next
      go true e = s.ahead (stored_out (map f (drop i part)) (h (ltb-true i (length part) e)))
      go false e = whole s (ap (map f) (drop_of_length-le part (ltb-false i (length part) e)))

-- the first k characters stored at once, and the rest behind them
pub first_at_once : (f : ℕ → ℕ) (k : ℕ) (part before : List ℕ) (at : ℕ) {m next : ℕ} {first rest bytes after : List ℕ} → at + k ≤ length before → k ≤ length part → m ≡ k
    → first ≡ take k part → rest ≡ drop k part → bytes ≡ map f first
    → Stored (put_mid at m before bytes) (at + k) (map f rest) after next → Stored before at (map f part) after next
first_at_once f k part before at {m} {next} {first} {rest} {bytes} {after} fits enough e one two made s =
    let long : length bytes ≡ k = omega (arith, ap length made, length-map first f, ap length one, length-take k part, enough) in
    let n : at + length bytes ≡ at + k = omega (arith, long) in
    let stored : put_mid at m before bytes ≡ sets before at bytes =
    sym (append_assoc (take at before) bytes (drop m (drop at before)))
    ∙ ap (λ x. take at before ++ bytes ++ x) (drop-drop m at before ∙ ap (λ j. drop j before) (ap (λ j. at + j) e ∙ sym n))
    ∙ sym (sets-eq bytes before at (omega (arith, fits, long))) in
    let ahead : Stored before at bytes (put_mid at m before bytes) (at + k) =
    record { behind = λ more. ap₂ (λ x j. sets x j more) stored (sym n) ∙ sym (sets_append bytes more before at) } in
    stored_as (ap₂ (λ x y. x ++ map f y) made two ∙ sym (map-append f first (drop k part)) ∙ ap (λ x. map f (x ++ drop k part)) one ∙ ap (map f) (take-append-drop k part))
    (stored-append ahead s)

doubled-append : (t : Bool) (b : ℕ) (bs : List ℕ) → doubled t b bs ≡ doubled t b [] ++ bs
doubled-append true b bs = refl
doubled-append false b bs = refl

module _ (t : CodeTable) (f : ℕ → ℕ) (part : List ℕ) (i : ℕ) where
  pub escaped_on : i < length part
      → map f (escaped t (drop i part)) ≡ map f (doubled (eqb (get_or part i 0) t.DLE) (get_or part i 0) []) ++ map f (escaped t (drop (i + 1) part))
  unfolding escaped
  escaped_on h =
      let b = get_or part i 0 in
      ap (λ l. map f (escaped t l)) (drop_on part i h) ∙ ap (map f) (doubled-append (eqb b t.DLE) b (escaped t (drop (i + 1) part)))
      ∙ map-append f (doubled (eqb b t.DLE) b []) (escaped t (drop (i + 1) part))

  pub escaped_out : length part ≤ i → map f (escaped t (drop i part)) ≡ []
  unfolding escaped
  escaped_out h = ap (λ l. map f (escaped t l)) (drop_of_length-le part h)

-- ---- bytes changed in place

pub changed-next : (f : ℕ → ℕ) (xs ys : List ℕ) (i : ℕ) {b : ℕ} → i < length xs → i < length ys → b ≡ f (get_or xs i 0)
    → get_or xs i 0 ≡ get_or ys i 0 → take i xs ≡ map f (take i ys) → take (i + 1) (set xs i b) ≡ map f (take (i + 1) ys)
changed-next f xs ys i {b} hx hy made same before =
    take_more_set xs i b hx
    ∙ ap₂ (λ l x. l ++ x ∷ []) before (made ∙ ap f same)
    ∙ sym (ap (map f) ((take_at_read ys i 0 hy).1) ∙ map-append f (take i ys) (get_or ys i 0 ∷ []))
