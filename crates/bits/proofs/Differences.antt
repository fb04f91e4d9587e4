-- Laws of the numbers of set bits: a burst lies in a window, and two set bits have zeros around them. Assumes nothing.
use mathlib.Core.Path.{◌≡◌, refl, sym, ap, ◌∙◌}
use Prim.Native.Nat.{ℕ, zero, suc, ◌+◌, ◌≤◌, ◌<◌}
use native.Mathlib.Omega.{arith}
use mathlib.Core.Bool.{Bool, true, false}
use mathlib.Core.List.{List, [], ◌∷◌, ◌++◌, append_assoc, head-eq_of_cons-eq, tail-eq_of_cons-eq}
use lib.ListN.{length}
use Rattle.bits.specs.Strings.{xor_bits, zeros, weight}
use Rattle.bits.specs.Differences.{set_from, differing, Each, Burst}
use Rattle.bits.proofs.Strings.{equal_of_xor, length-xor}

-- ---- set_from

pub length-set_from : (n : ℕ) (e : List Bool) → length (set_from n e) ≡ weight e
length-set_from n [] = refl
length-set_from n (true ∷ e) = ap suc (length-set_from (suc n) e)
length-set_from n (false ∷ e) = length-set_from (suc n) e

pub set_from-nil : (n : ℕ) (e : List Bool) → set_from n e ≡ [] → e ≡ zeros (length e)
set_from-nil n [] h = refl
set_from-nil n (true ∷ e) h = absurd (omega (arith, ap length h))
set_from-nil n (false ∷ e) h = ap (λ z. false ∷ z) (set_from-nil (suc n) e h)

-- every number is at least the first
set_from_from : (n k : ℕ) (e : List Bool) (ns : List ℕ) → set_from n e ≡ k ∷ ns → n ≤ k
set_from_from n k [] ns h = absurd (omega (arith, ap length h))
set_from_from n k (true ∷ e) ns h = omega (arith, head-eq_of_cons-eq h)
set_from_from n k (false ∷ e) ns h = omega (arith, set_from_from (suc n) k e ns h)

-- the numbers say which bits are set
pub set_from_injective : (n : ℕ) (a b : List Bool) → length a ≡ length b → set_from n a ≡ set_from n b → a ≡ b
set_from_injective n [] [] l h = refl
set_from_injective n [] (y ∷ b) l h = absurd (omega arith)
set_from_injective n (x ∷ a) [] l h = absurd (omega arith)
set_from_injective n (true ∷ a) (true ∷ b) l h = ap (λ z. true ∷ z) (set_from_injective (suc n) a b (omega arith) (tail-eq_of_cons-eq h))
set_from_injective n (true ∷ a) (false ∷ b) l h = absurd (omega (arith, set_from_from (suc n) n b (set_from (suc n) a) (sym h)))
set_from_injective n (false ∷ a) (true ∷ b) l h = absurd (omega (arith, set_from_from (suc n) n a (set_from (suc n) b) h))
set_from_injective n (false ∷ a) (false ∷ b) l h = ap (λ z. false ∷ z) (set_from_injective (suc n) a b (omega arith) h)

-- ---- differing

pub length-differing : (a b : List Bool) → length (differing a b) ≡ weight (xor_bits a b)
length-differing a b = length-set_from 0 (xor_bits a b)

pub equal_of_differing : (a b : List Bool) → length a ≡ length b → differing a b ≡ [] → a ≡ b
equal_of_differing a b h e = equal_of_xor a b h (set_from-nil 0 (xor_bits a b) e ∙ ap zeros (length-xor a b h))

-- ---- Burst

pub each_map : {P Q : ℕ → Type 0} (ns : List ℕ) → ((n : ℕ) → P n → Q n) → Each P ns → Each Q ns
each_map [] f e = tt
each_map (n ∷ ns) f e = (f n e.0, each_map ns f e.1)

pub burst_widen : (v w : ℕ) (ns : List ℕ) → v ≤ w → Burst v ns → Burst w ns
burst_widen v w ns h e = each_map ns (λ i. each_map ns (λ j l. omega arith)) e

-- at most w bits, with zeros before and after
pub record Window (w : ℕ) (e : List Bool) : Type 0 where
  pub before : ℕ
  pub after : ℕ
  pub bits : List Bool
  pub small : length bits ≤ w
  pub whole : e ≡ zeros before ++ (bits ++ zeros after)

none-set : (n : ℕ) (e : List Bool) → Each (λ j. j < n) (set_from n e) → e ≡ zeros (length e)
none-set n [] h = refl
none-set n (true ∷ e) h = absurd (omega (arith, h.0))
none-set n (false ∷ e) h = ap (λ z. false ∷ z) (none-set (suc n) e (each_map (set_from (suc n) e) (λ j l. omega arith) h))

abbrev Front : ℕ → List Bool → Type 0
Front w e = (bits : List Bool) × (after : ℕ) × (length bits ≤ w) × (e ≡ bits ++ zeros after)

front_cons : {w : ℕ} {e : List Bool} (x : Bool) → Front w e → Front (suc w) (x ∷ e)
front_cons x (b, a, s, q) = (x ∷ b, a, omega arith, ap (λ z. x ∷ z) q)

front : (w n : ℕ) (e : List Bool) → Each (λ j. j < n + w) (set_from n e) → Front w e
front zero n e h = ([], length e, omega arith, none-set n e (each_map (set_from n e) (λ j l. omega arith) h))
front (suc w) n [] h = ([], 0, omega arith, refl)
front (suc w) n (true ∷ e) h = front_cons true (front w (suc n) e (each_map (set_from (suc n) e) (λ j l. omega arith) h.1))
front (suc w) n (false ∷ e) h = front_cons false (front w (suc n) e (each_map (set_from (suc n) e) (λ j l. omega arith) h))

window_from : (w n : ℕ) (e : List Bool) → Burst w (set_from n e) → Window w e
window_from w n [] h = record { before = 0; after = 0; bits = []; small = omega arith; whole = refl }
window_from w n (false ∷ e) h = go (window_from w (suc n) e h)
  where
    go : Window w e → Window w (false ∷ e)
    go v = record { before = suc v.before; after = v.after; bits = v.bits; small = v.small; whole = ap (λ z. false ∷ z) v.whole }
window_from w n (true ∷ e) h = go (front w n (true ∷ e) h.0)
  where
    go : Front w (true ∷ e) → Window w (true ∷ e)
    go (b, a, s, q) = record { before = 0; after = a; bits = b; small = s; whole = q }

pub burst_window : (w : ℕ) (a b : List Bool) → Burst w (differing a b) → Window w (xor_bits a b)
burst_window w a b h = window_from w 0 (xor_bits a b) h

-- ---- one set bit, two set bits

abbrev OneSet : ℕ → ℕ → List Bool → Type 0
OneSet n j e = (k : ℕ) × (r : ℕ) × (e ≡ zeros k ++ true ∷ zeros r) × (j ≡ n + k) × (k < length e)

one_set : (n j : ℕ) (e : List Bool) → set_from n e ≡ j ∷ [] → OneSet n j e
one_set n j [] h = absurd (omega (arith, ap length h))
one_set n j (true ∷ e) h =
    (0, length e, ap (λ z. true ∷ z) (set_from-nil (suc n) e (tail-eq_of_cons-eq h)), omega (arith, head-eq_of_cons-eq h), omega arith)
one_set n j (false ∷ e) h = go (one_set (suc n) j e h)
  where
    go : OneSet (suc n) j e → OneSet n j (false ∷ e)
    go (k, r, q, a, l) = (suc k, r, ap (λ z. false ∷ z) q, omega arith, omega arith)

-- two bits with the numbers i and j are set, and no other
pub record TwoSet (i j : ℕ) (e : List Bool) : Type 0 where
  pub before : ℕ
  pub between : ℕ
  pub after : ℕ
  pub whole : e ≡ zeros before ++ ((true ∷ (zeros between ++ true ∷ [])) ++ zeros after)
  pub apart : j ≡ i + suc between
  pub inside : suc between < length e

two-set : (n i j : ℕ) (e : List Bool) → set_from n e ≡ i ∷ j ∷ [] → TwoSet i j e
two-set n i j [] h = absurd (omega (arith, ap length h))
two-set n i j (true ∷ e) h = go (one_set (suc n) j e (tail-eq_of_cons-eq h))
  where
    go : OneSet (suc n) j e → TwoSet i j (true ∷ e)
    go (k, r, q, a, l) =
        record {
          before = 0;
          between = k;
          after = r;
          whole = ap (λ z. true ∷ z) (q ∙ sym (append_assoc (zeros k) (true ∷ []) (zeros r)));
          apart = omega (arith, head-eq_of_cons-eq h);
          inside = omega arith;
        }
two-set n i j (false ∷ e) h = go (two-set (suc n) i j e h)
  where
    go : TwoSet i j e → TwoSet i j (false ∷ e)
    go t =
        record {
          before = suc t.before;
          between = t.between;
          after = t.after;
          whole = ap (λ z. false ∷ z) t.whole;
          apart = t.apart;
          inside = omega (arith, t.inside);
        }

pub two-differing : (a b : List Bool) (i j : ℕ) → differing a b ≡ i ∷ j ∷ [] → TwoSet i j (xor_bits a b)
two-differing a b i j h = two-set 0 i j (xor_bits a b) h

-- a single differing bit is a window of one bit
pub one_differing : (a b : List Bool) (j : ℕ) → differing a b ≡ j ∷ [] → Window 1 (xor_bits a b)
one_differing a b j h = go (one_set 0 j (xor_bits a b) h)
  where
    go : OneSet 0 j (xor_bits a b) → Window 1 (xor_bits a b)
    go (k, r, q, c, l) = record { before = k; after = r; bits = true ∷ []; small = omega arith; whole = q }
