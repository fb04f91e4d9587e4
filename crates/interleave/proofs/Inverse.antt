-- `interleave` and `deinterleave`, byte for byte; each undoes the other. Assumes nothing.
use Rattle.std.proofs.Common.{◌≡◌, ℕ, ◌<◌, ◌≤◌, List, length, get_or, arith, ap, ◌∙◌, sym}
use Rattle.std.proofs.lemmas.List.{length-map, ext_get_or, get_or-map}
use Rattle.std.proofs.lemmas.List.FromFn.{length-map-range_with_len, get_or-map-range_with_len}
use Rattle.interleave.specs.Interleave.{order, interleave, place, deinterleave}
use Rattle.interleave.proofs.Order.{length-order}
use Rattle.interleave.proofs.Places.{byte_at, place-is, place-within, order-place}

-- ---- interleave and deinterleave, byte for byte

pub length-interleave : (d : ℕ) (text : List ℕ) → 1 ≤ d → length (interleave d text) ≡ length text
unfolding interleave
length-interleave d text h = length-map (order d (length text)) (λ i. get_or text i 0) ∙ length-order d h (length text)

pub length-deinterleave : (d : ℕ) (line : List ℕ) → length (deinterleave d line) ≡ length line
unfolding deinterleave
length-deinterleave d line = length-map-range_with_len (λ i. get_or line (place d (length line) i) 0) 0 (length line)

pub get_or-interleave : (d : ℕ) (text : List ℕ) (i : ℕ) → 1 ≤ d → i < length text
    → get_or (interleave d text) (place d (length text) i) 0 ≡ get_or text i 0
unfolding interleave
get_or-interleave d text i h l =
    let n = length text in
    get_or-map (λ k. get_or text k 0) (order d n) (place d n i) 0 0 (omega (arith, length-order d h n, place-within d n h i l))
    ∙ ap (λ k. get_or text k 0) (order-place d n h i l)

pub get_or-deinterleave : (d : ℕ) (line : List ℕ) (i : ℕ) → i < length line → get_or (deinterleave d line) i 0 ≡ get_or line (place d (length line) i) 0
unfolding deinterleave
get_or-deinterleave d line i l =
    get_or-map-range_with_len (λ k. get_or line (place d (length line) k) 0) 0 (length line) i i 0 l (omega arith)

-- ---- inverse

pub restores : (d : ℕ) (text : List ℕ) → 1 ≤ d → deinterleave d (interleave d text) ≡ text
restores d text h = ext_get_or 0 (deinterleave d (interleave d text)) text (length-deinterleave d (interleave d text) ∙ same) each
  where
    same : length (interleave d text) ≡ length text
    same = length-interleave d text h

    each : (i : ℕ) → i < length (deinterleave d (interleave d text)) → get_or (deinterleave d (interleave d text)) i 0 ≡ get_or text i 0
    each i l =
        let m : i < length (interleave d text) = omega (arith, length-deinterleave d (interleave d text)) in
        get_or-deinterleave d (interleave d text) i m ∙ ap (λ n. get_or (interleave d text) (place d n i) 0) same
        ∙ get_or-interleave d text i h (omega (arith, same))

pub returns : (d : ℕ) (line : List ℕ) → 1 ≤ d → interleave d (deinterleave d line) ≡ line
returns d line h = ext_get_or 0 (interleave d (deinterleave d line)) line (length-interleave d (deinterleave d line) h ∙ same) each
  where
    same : length (deinterleave d line) ≡ length line
    same = length-deinterleave d line

    each : (k : ℕ) → k < length (interleave d (deinterleave d line)) → get_or (interleave d (deinterleave d line)) k 0 ≡ get_or line k 0
    each k l =
        let n = length line in
        let w = byte_at d n h k (omega (arith, length-interleave d (deinterleave d line) h, same)) in
        let there : place d n w.byte ≡ k = place-is d n h w.byte w.below ∙ w.there in
        let e : place d (length (deinterleave d line)) w.byte ≡ k = ap (λ m. place d m w.byte) same ∙ there in
        ap (λ x. get_or (interleave d (deinterleave d line)) x 0) (sym e)
        ∙ get_or-interleave d (deinterleave d line) w.byte h (omega (arith, w.below, same))
        ∙ get_or-deinterleave d line w.byte w.below ∙ ap (λ x. get_or line x 0) there
