-- The stored blocks with one more, and with the oldest freed. Assumes nothing.
use Rattle.std.proofs.Common.{◌≡◌, ℕ, zero, suc, ◌+◌, ◌-◌, ◌*◌, ◌^◌, ◌<◌, ◌≤◌, Bool, true, false, cond, ◌&&◌, leb, ltb, List, [], ◌∷◌, ◌++◌, length, get_or, set, take, drop, refl, sym, ap, ap₂, ◌∙◌, arith, le-leb, leb-true, leb-false, ltb-true, ltb-false, nat_le, append_assoc, length-append, length-drop}
use borrow.Author.Tests.{lt-leb}
use lib.ListN.{take-append-drop}
use lib.Seq.{length-take-le, take-append-le, drop-append-le, drop-append-add, drop-drop, drop_at, take-append_seam, get_or-set_same, get_or-set_other, sets, sets-eq}
use Rattle.std.specs.List.{list_all}
use Rattle.orders.specs.declared.CyclicMethod.{CyclicMethod}
use Rattle.orders.specs.Methods.{method_of}
use Rattle.sender.specs.declared.Station.{Station}
use Rattle.sender.specs.Ring.{back, bytes_in, bytes_at}
use Rattle.sender.specs.Sender.{with_block, with_latest, with_method}
use Rattle.sender.specs.Sending.{method_at}
use Rattle.sender.specs.Right.{Right}
use Rattle.sender.specs.History.{Block, block_at, down_from, stored_blocks}
use Rattle.sender.proofs.Rings.{back-below, back-next, back-suc, back-other}

-- ---- down_from

down_from-same : (k : ℕ) (f g : ℕ → Block) → ((d : ℕ) → d < k → f d ≡ g d) → down_from k f ≡ down_from k g
unfolding down_from
down_from-same zero f g e = refl
down_from-same (suc k) f g e = ap₂ (λ b bs. b ∷ bs) (e k (omega arith)) (down_from-same k f g (λ d h. e d (omega arith)))

down_from-suc : (k : ℕ) (f : ℕ → Block) → down_from (suc k) f ≡ down_from k (λ d. f (suc d)) ++ (f 0 ∷ [])
unfolding down_from
down_from-suc zero f = refl
down_from-suc (suc k) f = ap (λ bs. f (suc k) ∷ bs) (down_from-suc k f)

drop-down_from : (k d : ℕ) (f : ℕ → Block) → drop k (down_from (k + d) f) ≡ down_from d f
unfolding down_from
drop-down_from zero d f = let e : zero + d ≡ d = omega arith in ap (λ z. down_from z f) e
drop-down_from (suc k) d f =
    let e : suc k + d ≡ suc (k + d) = omega arith in
    ap (λ z. drop (suc k) (down_from z f)) e ∙ drop-down_from k d f

pub get_or-down_from : (k d : ℕ) (f : ℕ → Block) (b : Block) → get_or (down_from (k + suc d) f) k b ≡ f d
unfolding down_from
get_or-down_from zero d f b = let e : zero + suc d ≡ suc d = omega arith in ap (λ z. get_or (down_from z f) zero b) e
get_or-down_from (suc k) d f b =
    let e : suc k + suc d ≡ suc (k + suc d) = omega arith in
    ap (λ z. get_or (down_from z f) (suc k) b) e ∙ get_or-down_from k d f b

-- ---- no length over 4,095

abbrev pub short : List ℕ → Bool
short lengths = list_all (λ len. nat_le len 4095) lengths

pub short_at : (l : List ℕ) (i : ℕ) → short l ≡ true → get_or l i 0 ≤ 4095
short_at [] zero e = omega arith
short_at [] (suc i) e = omega arith
short_at (x ∷ l) i e = go (leb x 4095) refl e i (λ t j. short_at l j t)
  where
    go : (t : Bool) → leb x 4095 ≡ t → (t && short l) ≡ true → (i : ℕ) → (short l ≡ true → (j : ℕ) → get_or l j 0 ≤ 4095) → get_or (x ∷ l) i 0 ≤ 4095
    go true p q zero r = leb-true x 4095 p
    go true p q (suc i) r = r q i
    go false p q i r = let z : ◌≡◌ {A = ℕ} 0 1 = cc in absurd (omega arith)

pub short-set : (l : List ℕ) (i v : ℕ) → v ≤ 4095 → short l ≡ true → short (set l i v) ≡ true
short-set [] zero v h e = refl
short-set [] (suc i) v h e = refl
short-set (x ∷ l) i v h e = go (leb x 4095) refl e i (λ t j. short-set l j v h t)
  where
    go : (t : Bool) → leb x 4095 ≡ t → (t && short l) ≡ true → (i : ℕ) → (short l ≡ true → (j : ℕ) → short (set l j v) ≡ true)
        → short (set (x ∷ l) i v) ≡ true
    go true p q zero r = rw (le-leb v 4095 h) q
    go true p q (suc i) r = rw p (r q i)
    go false p q i r = let z : ◌≡◌ {A = ℕ} 0 1 = cc in absurd (omega arith)

-- ---- bytes: a block laid into a store

module _ (at : ℕ) (block store : List ℕ) (h : at + length block ≤ length store) where
  -- a part that ends before the place
  part-before : (rest : List ℕ) (k len : ℕ) → k + len ≤ at → take len (drop k (take at store ++ rest)) ≡ take len (drop k (take at store))
  part-before rest k len e =
      let l : length (take at store) ≡ at = length-take-le at store (omega arith) in
      ap (take len) (drop-append-le k (take at store) rest (omega arith))
      ∙ take-append-le len (drop k (take at store)) rest (omega (arith, length-drop k (take at store)))

  grouped : sets store at block ≡ take at store ++ (block ++ drop (at + length block) store)
  grouped = sets-eq block store at h ∙ append_assoc (take at store) block (drop (at + length block) store)

  before-laid : (k len : ℕ) → k + len ≤ at → take len (drop k (sets store at block)) ≡ take len (drop k store)
  before-laid k len e =
      ap (λ l. take len (drop k l)) grouped ∙ part-before (block ++ drop (at + length block) store) k len e
      ∙ sym (ap (λ z. take len (drop k z)) (sym (take-append-drop at store)) ∙ part-before (drop at store) k len e)

  behind-laid : (k : ℕ) → at + length block ≤ k → drop k (sets store at block) ≡ drop k store
  behind-laid k e =
      let l : length (take at store) ≡ at = length-take-le at store (omega arith) in
      let l' : length (take at store ++ block) ≡ at + length block = length-append (take at store) block ∙ ap (λ z. z + length block) l in
      let j = k - (at + length block) in
      let i : k ≡ length (take at store ++ block) + j = omega arith in
      let i' : k ≡ at + length block + j = omega arith in
      ap (drop k) (sets-eq block store at h)
      ∙ ap (λ z. drop z (take at store ++ block ++ drop (at + length block) store)) i
      ∙ drop-append-add (take at store ++ block) (drop (at + length block) store) j
      ∙ drop-drop j (at + length block) store
      ∙ ap (λ z. drop z store) (sym i')

  at-laid : take (length block) (drop at (sets store at block)) ≡ block
  at-laid =
      ap (λ l. take (length block) (drop at l)) grouped
      ∙ ap (take (length block)) (drop_at (take at store) (block ++ drop (at + length block) store) at (length-take-le at store (omega arith)))
      ∙ take-append_seam block (drop (at + length block) store)

-- ---- one more block

module _ (n w : ℕ) (s : Station) (store block : List ℕ) (z : Right n w s) (seven : length s.lengths ≡ 7) (room : w * 4096 ≤ length store)
    (few : length block ≤ 4095) (free : s.stored < w) where
  abbrev s' : Station
  s' = with_block n w s (length block)

  abbrev place : ℕ
  place = s.cell * 4096

  abbrev store' : List ℕ
  store' = sets store place block

  pub fits : place + length block ≤ length store
  fits = let c : s.cell < w = z.cell_below in omega arith

  newest : bytes_at w s' store' 0 ≡ block
  newest =
      let c : s.cell < w = z.cell_below in
      let w7 : w ≤ 7 = z.agreed.w_most in
      ap (bytes_in s'.lengths store') (back-next w s.cell (z.cell_below))
      ∙ ap (λ k. take k (drop place store')) (get_or-set_same s.lengths s.cell (length block) 0 (omega arith))
      ∙ at-laid place block store fits

  other : (c : ℕ) → c < w → (c ≡ s.cell → ⊥) → bytes_in s'.lengths store' c ≡ bytes_in s.lengths store c
  other c h ne =
      ap (λ k. take k (drop (c * 4096) store')) (get_or-set_other s.lengths s.cell c (length block) 0 ne)
      ∙ go (ltb c s.cell) refl
    where
      go : (t : Bool) → ltb c s.cell ≡ t → take (get_or s.lengths c 0) (drop (c * 4096) store') ≡ take (get_or s.lengths c 0) (drop (c * 4096) store)
      go true p =
          let i : c < s.cell = ltb-true c s.cell p in
          let m : get_or s.lengths c 0 ≤ 4095 = short_at s.lengths c (z.lengths_most) in
          before-laid place block store fits (c * 4096) (get_or s.lengths c 0) (omega arith)
      go false p =
          let i : s.cell ≤ c = ltb-false c s.cell p in
          let j : s.cell < c = omega arith in
          ap (take (get_or s.lengths c 0)) (behind-laid place block store fits (c * 4096) (omega arith))

  older : (d : ℕ) → d < s.stored → bytes_at w s' store' (suc d) ≡ bytes_at w s store d
  older d h =
      let l : suc d < w = omega arith in
      ap (bytes_in s'.lengths store') (back-suc w s.cell d l)
      ∙ other (back w s.cell d) (back-below w s.cell d (omega arith)) (back-other w s.cell d (z.cell_below) l)

  newest_method : method_at s' 0 ≡ s.method
  unfolding method_at
  newest_method =
      let o : s.older ≤ s.stored = z.older_most in
      let l : 0 < s.stored + 1 - s.older = omega arith in
      rw (lt-leb (s.stored + 1 - s.older) 0 l)

  older_method : (d : ℕ) → method_at s' (suc d) ≡ method_at s d
  unfolding method_at
  older_method d = go (leb (s.stored - s.older) d) refl
    where
      o : s.older ≤ s.stored
      o = z.older_most

      go : (t : Bool) → leb (s.stored - s.older) d ≡ t
          → cond (leb (s.stored + 1 - s.older) (suc d)) s.former s.method ≡ cond (leb (s.stored - s.older) d) s.former s.method
      go true p =
          let i : s.stored - s.older ≤ d = leb-true (s.stored - s.older) d p in
          let j : s.stored + 1 - s.older ≤ suc d = omega arith in
          rw (p, le-leb (s.stored + 1 - s.older) (suc d) j)
      go false p =
          let i : d < s.stored - s.older = leb-false (s.stored - s.older) d p in
          let j : suc d < s.stored + 1 - s.older = omega (arith, o) in
          rw (p, lt-leb (s.stored + 1 - s.older) (suc d) j)

  older_number : (d : ℕ) → d < s.stored → back (2 ^ n) s'.next (suc d) ≡ back (2 ^ n) s.next d
  older_number d h = let b : w < 2 ^ n = z.agreed.w_below in back-suc (2 ^ n) s.next d (omega arith)

  older_block : (d : ℕ) → d < s.stored → block_at n w s' store' (suc d) ≡ block_at n w s store d
  older_block d h =
      ap (λ k. record { number = k; method = method_of (method_at s' (suc d)); bytes = bytes_at w s' store' (suc d) }) (older_number d h)
      ∙ ap (λ m. record { number = back (2 ^ n) s.next d; method = method_of m; bytes = bytes_at w s' store' (suc d) }) (older_method d)
      ∙ ap (λ bytes. record { number = back (2 ^ n) s.next d; method = method_of (method_at s d); bytes = bytes }) (older d h)

  newest_block : block_at n w s' store' 0 ≡ record { number = s.next; method = method_of s.method; bytes = block }
  newest_block =
      ap (λ k. record { number = k; method = method_of (method_at s' 0); bytes = bytes_at w s' store' 0 }) (back-next (2 ^ n) s.next (z.next_below))
      ∙ ap (λ m. record { number = s.next; method = method_of m; bytes = bytes_at w s' store' 0 }) newest_method
      ∙ ap (λ bytes. record { number = s.next; method = method_of s.method; bytes = bytes }) newest

  pub one_more : stored_blocks n w s' store'
      ≡ stored_blocks n w s store ++ (record { number = s.next; method = method_of s.method; bytes = block } ∷ [])
  one_more =
      let e : s.stored + 1 ≡ suc s.stored = omega arith in
      ap (λ k. down_from k (block_at n w s' store')) e
      ∙ down_from-suc s.stored (block_at n w s' store')
      ∙ ap₂ (λ bs b. bs ++ (b ∷ []))
      (down_from-same s.stored (λ d. block_at n w s' store' (suc d)) (block_at n w s store) older_block) newest_block

-- ---- the latest alone, and after an order

module _ (n w : ℕ) (s : Station) (store : List ℕ) where
  latest_method : (left d : ℕ) → s.older ≤ s.stored → left ≤ s.stored → d < left → method_at (with_latest s left) d ≡ method_at s d
  unfolding method_at
  latest_method left d o l h = go (leb (s.stored - s.older) d) refl
    where
      go : (t : Bool) → leb (s.stored - s.older) d ≡ t
          → cond (leb (left - (s.older - (s.stored - left))) d) s.former s.method ≡ cond (leb (s.stored - s.older) d) s.former s.method
      go true p =
          let i : s.stored - s.older ≤ d = leb-true (s.stored - s.older) d p in
          let j : left - (s.older - (s.stored - left)) ≤ d = omega arith in
          rw (p, le-leb (left - (s.older - (s.stored - left))) d j)
      go false p =
          let i : d < s.stored - s.older = leb-false (s.stored - s.older) d p in
          let j : d < left - (s.older - (s.stored - left)) = omega arith in
          rw (p, lt-leb (left - (s.older - (s.stored - left))) d j)

  pub the_latest : (left : ℕ) → s.older ≤ s.stored → left ≤ s.stored
      → stored_blocks n w (with_latest s left) store ≡ drop (s.stored - left) (stored_blocks n w s store)
  the_latest left o l =
      let e : s.stored - left + left ≡ s.stored = omega arith in
      down_from-same left (block_at n w (with_latest s left) store) (block_at n w s store)
      (λ d h. ap (λ m. record { number = back (2 ^ n) s.next d; method = method_of m; bytes = bytes_at w s store d }) (latest_method left d o l h))
      ∙ sym (drop-down_from (s.stored - left) left (block_at n w s store))
      ∙ ap (λ k. drop (s.stored - left) (down_from k (block_at n w s store))) e

  ordered_method : (m : CyclicMethod) (d : ℕ) → s.older ≡ 0 → d < s.stored → method_at (with_method s m) d ≡ method_at s d
  unfolding method_at
  ordered_method m d o h =
      let i : s.stored - s.stored ≤ d = omega arith in
      let j : d < s.stored - s.older = omega arith in
      rw (le-leb (s.stored - s.stored) d i, lt-leb (s.stored - s.older) d j)

  pub under_their_methods : (m : CyclicMethod) → s.older ≡ 0 → stored_blocks n w (with_method s m) store ≡ stored_blocks n w s store
  under_their_methods m o =
      down_from-same s.stored (block_at n w (with_method s m) store) (block_at n w s store)
      (λ d h. ap (λ k. record { number = back (2 ^ n) s.next d; method = method_of k; bytes = bytes_at w s store d }) (ordered_method m d o h))
