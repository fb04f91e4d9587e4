-- Bits packed into a number of bytes: each takes eight of them, and no bit behind them is seen. Assumes nothing.
use mathlib.Core.Path.{◌≡◌, refl, sym, ap, ap₂, ◌∙◌}
use mathlib.Core.Bool.{Bool}
use mathlib.Core.List.{List, [], ◌∷◌, ◌++◌, append-nil}
use Prim.Native.Nat.{ℕ, zero, suc, ◌+◌, ◌-◌, ◌*◌, ◌<◌, ◌≤◌}
use native.Mathlib.Omega.{arith}
use lib.ListN.{length, take, drop, length-drop}
use lib.Seq.{take-take, take-add, drop_at, length-take-le}
use Rattle.bits.specs.Strings.{zeros}
use Rattle.bits.specs.Bytes.{bits_of, value, bytes_for, pack_into, pack}
use Rattle.bits.proofs.Packing.{bits_of-pack}

pub pack_into_next : (n : ℕ) (s : List Bool) → 0 < n → pack_into n s ≡ value (take 8 s) ∷ pack_into (n - 1) (drop 8 s)
unfolding pack_into
pack_into_next zero s h = absurd (omega arith)
pack_into_next (suc n) s h = let e : n ≡ suc n - 1 = omega arith in ap (λ k. value (take 8 s) ∷ pack_into k (drop 8 s)) e

pub pack_into-none : (n : ℕ) (s : List Bool) → n ≤ 0 → pack_into n s ≡ []
unfolding pack_into
pack_into-none zero s h = refl
pack_into-none (suc n) s h = absurd (omega arith)

pub drop-take : (m k : ℕ) (s : List Bool) → m + k ≤ length s → drop m (take (m + k) s) ≡ take k (drop m s)
drop-take m k s h =
    let z : m ≤ length s = omega arith in
    ap (drop m) (take-add m k s) ∙ drop_at (take m s) (take k (drop m s)) m (length-take-le m s z)

pack_into-take : (n : ℕ) (s : List Bool) → 8 * n ≤ length s → pack_into n (take (8 * n) s) ≡ pack_into n s
unfolding pack_into
pack_into-take zero s h = refl
pack_into-take (suc n) s h =
    let e : 8 * suc n ≡ 8 + 8 * n = omega arith in
    let q : 8 + 8 * n ≤ length s = omega arith in
    let r : 8 ≤ 8 + 8 * n = omega arith in
    ap (λ k. value (take 8 (take k s)) ∷ pack_into n (drop 8 (take k s))) e
    ∙ ap₂ (λ a b. value a ∷ pack_into n b) (take-take 8 (8 + 8 * n) s r) (drop-take 8 (8 * n) s q)
    ∙ ap (λ l. value (take 8 s) ∷ l) (pack_into-take n (drop 8 s) (omega (arith, length-drop 8 s)))

-- so they are the bytes of the bits that they take
pub pack_into-pack : (n : ℕ) (s : List Bool) → 8 * n ≤ length s → pack_into n s ≡ pack (take (8 * n) s)
unfolding pack
pack_into-pack n s h =
    let e : bytes_for (length (take (8 * n) s)) ≡ n = omega (arith, length-take-le (8 * n) s h) in
    sym (ap (λ k. pack_into k (take (8 * n) s)) e ∙ pack_into-take n s h)

-- and hold those bits
pub bits_of-pack_into : (n : ℕ) (s : List Bool) → 8 * n ≤ length s → bits_of (pack_into n s) ≡ take (8 * n) s
bits_of-pack_into n s h =
    let t = take (8 * n) s in
    let z : 8 * bytes_for (length t) - length t ≡ 0 = omega (arith, length-take-le (8 * n) s h) in
    ap bits_of (pack_into-pack n s h) ∙ bits_of-pack t ∙ ap (λ k. t ++ zeros k) z ∙ append-nil t
