-- The properties of interleaving hold. Assumes nothing.
use Rattle.std.proofs.Common.{◌≡◌, ℕ, ◌+◌, ◌*◌, ◌/◌, ◌%◌, ◌<◌, ◌≤◌, Bool, true, false, nat_lt, ltb-true, ltb-false, List, length, get_or, arith, ap, ◌∙◌, sym, refl, subst}
use Rattle.std.specs.List.Sorted.{IsPermutation}
use Rattle.std.proofs.Math.Nat.{mod-eq_of_lt, mod_self, mod-one, div-eq_of_lt, div-one, div_self}
use Rattle.std.proofs.lemmas.List.{ext_get_or}
use Rattle.std.proofs.lemmas.List.Sorted.{IsPermutation-sym}
use Rattle.interleave.specs.Interleave.{interleave, place, deinterleave}
use Rattle.interleave.specs.Steps.{start}
use Rattle.interleave.specs.Properties.{Places, DifferAt, BurstSpread, Interleaving}
use Rattle.interleave.proofs.Places.{at, place-is, place-within, place-apart, closed_form, by_column, by_row, neighbours_apart}
use Rattle.interleave.proofs.Inverse.{length-interleave, length-deinterleave, get_or-interleave, get_or-deinterleave, restores, returns}
use Rattle.interleave.proofs.Permutation.{interleave-permutation, as_often}

-- ---- the same bytes

deinterleave-permutation : (d : ℕ) (line : List ℕ) → 1 ≤ d → IsPermutation line (deinterleave d line)
deinterleave-permutation d line h =
    IsPermutation-sym (deinterleave d line) line
    (subst (λ l. IsPermutation (deinterleave d line) l) (returns d line h) (interleave-permutation d (deinterleave d line) h))

-- ---- unchanged: every byte is sent at its own place

module _ (d : ℕ) (text : List ℕ) (h : 1 ≤ d) (own : (i : ℕ) → i < length text → at d (length text) h i ≡ i) where
  unchanged : interleave d text ≡ text
  unchanged = ext_get_or 0 (interleave d text) text (length-interleave d text h) each
    where
      each : (i : ℕ) → i < length (interleave d text) → get_or (interleave d text) i 0 ≡ get_or text i 0
      each i l =
          let m : i < length text = omega (arith, length-interleave d text h) in
          ap (λ x. get_or (interleave d text) x 0) (sym (place-is d (length text) h i m ∙ own i m)) ∙ get_or-interleave d text i h m

  unchanged-back : deinterleave d text ≡ text
  unchanged-back = ap (deinterleave d) (sym unchanged) ∙ restores d text h

own-in-one-column : (n i : ℕ) → at 1 n (omega arith) i ≡ i
unfolding start
own-in-one-column n i = omega (arith, div-one i, mod-one i, ap (λ c. c * (n / 1)) (mod-one i))

own-in-one-row : (d n i : ℕ) (h : 1 ≤ d) → n ≤ d → i < n → at d n h i ≡ i
unfolding start
own-in-one-row d n i h l a = go (nat_lt n d) refl
  where
    column : i % d ≡ i
    column = mod-eq_of_lt (omega arith)

    row : i / d ≡ 0
    row = div-eq_of_lt (omega arith)

    go : (t : Bool) → nat_lt n d ≡ t → at d n h i ≡ i
    go true t =
        let b = ltb-true n d t in
        omega (arith, column, row, ap (λ x. x * (n / d)) column, mod-eq_of_lt b, ap (λ q. i * q) (div-eq_of_lt b))
    go false t =
        let e : n ≡ d = omega (arith, ltb-false n d t) in
        omega (arith, column, row, ap (λ x. x * (n / d)) column, ap (λ x. x % d) e, mod_self d, ap (λ x. i * (x / d)) e, ap (λ q. i * q) (div_self {n = d} h))

-- ---- a burst

burst_spread : BurstSpread
burst_spread d k i sent received three long burst l a b =
    let n = length sent in
    let p = burst.within (place d n i) (damaged i (omega arith) a) in
    let q = burst.within (place d n (i + 1)) (damaged (i + 1) l b) in
    omega (arith, p, q, neighbours_apart d n i three long l)
  where
    -- a byte of the text differs where the byte at its place does
    damaged : (j : ℕ) → j < length sent → DifferAt (deinterleave d sent) (deinterleave d received) j → DifferAt sent received (place d (length sent) j)
    damaged j m ne e =
        ne
        (get_or-deinterleave d sent j m ∙ e
        ∙ ap (λ n. get_or received (place d n j) 0) (sym burst.as_long)
        ∙ sym (get_or-deinterleave d received j (omega (arith, burst.as_long))))

-- ---- all together

places : Places
places =
    record {
      closed_form = λ d n i h. closed_form d n h i;
      by_column = λ d n i j h. by_column d n h i j;
      by_row = λ d n i j h. by_row d n h i j;
      within = λ d n i h. place-within d n h i;
      apart = λ d n i j h. place-apart d n h i j;
      sent_there = get_or-interleave;
    }

pub interleaving : Interleaving
interleaving =
    record {
      places = places;
      inverse = record { restores = restores; returns = returns };
      same_bytes = record {
        permutation = interleave-permutation;
        as_often = λ d text b h. as_often b text (interleave d text) (interleave-permutation d text h);
        as_many = length-interleave;
      };
      same_bytes_back = record {
        permutation = deinterleave-permutation;
        as_often = λ d line b h. as_often b line (deinterleave d line) (deinterleave-permutation d line h);
        as_many = λ d line h. length-deinterleave d line;
      };
      unchanged = record {
        one_column = λ text. unchanged 1 text (omega arith) (λ i l. own-in-one-column (length text) i);
        one_row = λ d text h l. unchanged d text h (λ i a. own-in-one-row d (length text) i h l a);
      };
      unchanged_back = record {
        one_column = λ line. unchanged-back 1 line (omega arith) (λ i l. own-in-one-column (length line) i);
        one_row = λ d line h l. unchanged-back d line h (λ i a. own-in-one-row d (length line) i h l a);
      };
      neighbours_apart = neighbours_apart;
      burst_spread = burst_spread;
    }
