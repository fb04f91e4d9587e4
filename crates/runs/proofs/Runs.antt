-- Runs found by sixteens and byte by byte: what is left of the scan gives the whole. Assumes nothing.
use Rattle.std.proofs.Common.{◌≡◌, refl, sym, ap, subst, ◌∙◌, ℕ, zero, suc, ◌+◌, ◌*◌, ◌-◌, ◌≤◌, ◌<◌, arith, Bool, true, false, cond, List, [], ◌∷◌, length, get_or, get_or-take, take, drop, ◌/◌, add-one, drop-cons, drop_of_length-le}
use borrow.Author.Tests.{ltb-true, ltb-false}
use native.Mathlib.Nat.{add-zero}
use lib.Dec.{ltb}
use lib.Seq.{get_or-drop}
use Rattle.std.proofs.lemmas.List.{take_rest}
use Rattle.std.specs.Simd.{first_chunks}
use Rattle.std.specs.Bool.{⊤}
use Rattle.std.specs.List.{AllWithin, HoldsAt}
use Rattle.std.proofs.Common.{Option, None, Some}
use Rattle.std.specs.Option.{MatchOption, unwrap_or}
use Rattle.block.specs.Scan.{first_failing, AllPass}
use Rattle.block.proofs.Scans.{reached}

-- what is left of the scan gives the whole
record Scanned (test : ℕ → Bool) (l : List ℕ) (i : ℕ) : Type 0 where
  within : i ≤ length l
  rest : first_failing test i (drop i l) ≡ first_failing test 0 l

scan_begin : {test : ℕ → Bool} {l : List ℕ} → Scanned test l 0
scan_begin = record { within = omega arith; rest = refl }

module _ {test : ℕ → Bool} {l : List ℕ} {i : ℕ} (s : Scanned test l i) where
  module _ (h : i < length l) {passes : Bool} (p : passes ≡ test (get_or l i 0)) where
    at_byte : cond passes (first_failing test (i + 1) (drop (i + 1) l)) i ≡ first_failing test 0 l
    unfolding first_failing
    at_byte =
        ap (λ t. cond t (first_failing test (i + 1) (drop (i + 1) l)) i) p
        ∙ ap (λ n. cond (test (get_or l i 0)) (first_failing test (i + 1) (drop n l)) i) (add-one i)
        ∙ sym (ap (first_failing test i) (drop-cons l i 0 h)) ∙ s.rest

    scan_on : passes ≡ true → Scanned test l (i + 1)
    scan_on e = record { within = omega arith; rest = sym (ap (λ t. cond t (first_failing test (i + 1) (drop (i + 1) l)) i) e) ∙ at_byte }

    scan_stops : passes ≡ false → i ≡ first_failing test 0 l
    scan_stops e = sym (ap (λ t. cond t (first_failing test (i + 1) (drop (i + 1) l)) i) e) ∙ at_byte

  scan_ends : length l ≤ i → i ≡ first_failing test 0 l
  unfolding first_failing
  scan_ends h = sym (ap (first_failing test i) (drop_of_length-le l h)) ∙ s.rest

module _ (test : ℕ → Bool) (l : List ℕ) where
  -- as many bytes that pass
  passed : (n : ℕ) → n ≤ length l → AllPass test l 0 n → Scanned test l n
  passed zero h all = scan_begin
  passed (suc n) h all =
      rw (← add-one n) (scan_on (passed n (omega (arith, h)) (λ k p q. all k p (omega (arith, q)))) (omega (arith, h)) refl (all n (omega arith) (omega arith)))

  -- the place that the library finds
  pub first_at : (found : Option ℕ)
      → MatchOption found (AllWithin (λ b. test b ≡ true) l 0 (length l)) (λ i. (i < length l) × HoldsAt (λ b. test b ≡ false) l i × AllWithin (λ b. test b ≡ true) l 0 i)
      → unwrap_or found (length l) ≡ first_failing test 0 l
  first_at None all = scan_ends (passed (length l) (omega arith) (λ k p q. all k 0 p q)) (omega arith)
  first_at (Some i) h = scan_stops (passed i (omega (arith, h.0)) (λ k p q. h.2 k 0 p q)) h.0 refl (h.1 0)

-- the sixteens of a part, each of whose bytes pass
all_sixteens : (test : ℕ → Bool) (n i : ℕ) (l : List ℕ) → i ≤ n → AllWithin (λ s. AllPass test s 0 16) (first_chunks 16 n l) 0 i
    → AllPass test l 0 (16 * i)
all_sixteens test n zero l h all k p q = absurd (omega (arith, q))
all_sixteens test zero (suc i) l h all k p q = absurd (omega (arith, h))
all_sixteens test (suc n) (suc i) l h all k p q =
    go (ltb k 16) refl
    (all_sixteens test n i (drop 16 l) (omega (arith, h)) (λ j d u v. all (suc j) d (omega arith) (omega (arith, v))) (k - 16) (omega arith))
  where
    go : (t : Bool) → ltb k 16 ≡ t → (k - 16 < 16 * i → test (get_or (drop 16 l) (k - 16) 0) ≡ true) → test (get_or l k 0) ≡ true
    go true e behind =
        let below : k < 16 = ltb-true k 16 e in
        ap test (sym (get_or-take 16 l k 0 below)) ∙ all 0 [] (omega arith) (omega arith) k p below
    go false e behind =
        let above : 16 ≤ k = ltb-false k 16 e in
        let m : 16 + (k - 16) ≡ k = omega (arith, above) in
        ap (λ j. test (get_or l j 0)) (sym m) ∙ ap test (sym (get_or-drop 16 l (k - 16) 0)) ∙ behind (omega (arith, q, above))

pub shifted : (test : ℕ → Bool) (at k : ℕ) (l : List ℕ) → first_failing test (at + k) l ≡ at + first_failing test k l
unfolding first_failing
shifted test at k [] = refl
shifted test at k (b ∷ l) = go (test b) (shifted test at (k + 1) l)
  where
    go : (t : Bool) → first_failing test (at + (k + 1)) l ≡ at + first_failing test (k + 1) l
        → cond t (first_failing test (at + k + 1) l) (at + k) ≡ at + cond t (first_failing test (k + 1) l) k
    go true e = ap (λ m. first_failing test m l) (omega arith) ∙ e
    go false e = refl

pub sixteens_at : (test : ℕ → Bool) (l : List ℕ) {sixteens : List (List ℕ)} (found : Option ℕ)
    → sixteens ≡ first_chunks 16 (length l / 16) l → length sixteens ≡ length l / 16
    → MatchOption found (AllWithin (λ s. AllPass test s 0 16) sixteens 0 (length sixteens)) (λ i. (i < length sixteens) × HoldsAt (λ s. ⊤) sixteens i × AllWithin (λ s. AllPass test s 0 16) sixteens 0 i)
    → (16 * unwrap_or found (length sixteens) ≤ length l) × AllPass test l 0 (16 * unwrap_or found (length sixteens))
sixteens_at test l {sixteens} None e n all =
    (omega (arith, n), all_sixteens test (length l / 16) (length sixteens) l (omega (arith, n)) (subst (λ s. AllWithin (λ s. AllPass test s 0 16) s 0 (length sixteens)) e all))
sixteens_at test l (Some i) e n h =
    (omega (arith, n, h.0), all_sixteens test (length l / 16) i l (omega (arith, n, h.0)) (subst (λ s. AllWithin (λ s. AllPass test s 0 16) s 0 i) e h.2))

-- what the sixteens leave, found byte by byte
pub whole : (test : ℕ → Bool) (l : List ℕ) (n : ℕ) {r : ℕ} → n ≤ length l → AllPass test l 0 n
    → r ≡ first_failing test 0 (take (length l - n) (drop n l)) → (n + r ≡ first_failing test 0 l) × (n + r ≤ length l)
whole test l n {r} h all e =
    let s : first_failing test (n + 0) (drop n l) ≡ n + first_failing test 0 (drop n l) = shifted test n 0 (drop n l) in
    let is : n + r ≡ first_failing test 0 l =
    ap (λ r. n + r) (e ∙ ap (first_failing test 0) (take_rest l n)) ∙ sym s ∙ ap (λ m. first_failing test m (drop n l)) (add-zero n)
    ∙ (passed test l n h all).rest in
    (is, omega (arith, is, (reached test 0 l).within))
