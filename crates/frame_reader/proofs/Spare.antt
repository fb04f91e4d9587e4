-- The spare high bits of the last byte: the bytes stored, and then the last one cut to the bits of the content, are the content packed.
-- Assumes nothing.
use mathlib.Core.Path.{◌≡◌, sym, ap, ap₂, ◌∙◌}
use mathlib.Core.Bool.{Bool}
use mathlib.Core.List.{List}
use Prim.Native.Nat.{ℕ, zero, suc, ◌+◌, ◌*◌, ◌-◌, ◌/◌, ◌%◌, ◌^◌, ◌<◌, ◌≤◌}
use native.Mathlib.Nat.{add-suc, suc-add, add-zero}
use native.Mathlib.Omega.{arith}
use lib.ListN.{length, take, drop, get_or, set, length-set, length-drop}
use lib.Seq.{sets, set-set, take_at, take-take, take_all, length-take-le}
use Rattle.std.proofs.lemmas.List.{get_or-set_same}
use Rattle.bits.specs.Bytes.{low_bits, value, bytes_for, pack_into, pack}
use Rattle.bits.proofs.Bytes.{length-low_bits, low_bits-append, low_bits-value, value-low_bits}
use Rattle.bits.proofs.WholeBytes.{drop-take, pack_into-pack}

value_low : (k : ℕ) (u : List Bool) → k ≤ length u → value (take k u) ≡ value u % 2 ^ k
value_low k u h =
    let v = value u in
    let n : k + (length u - k) ≡ length u = omega arith in
    ap (λ s. value (take k s)) (sym (low_bits-value u) ∙ ap (λ w. low_bits w v) (sym n) ∙ low_bits-append k (length u - k) v)
    ∙ ap value (take_at (low_bits k v) (low_bits (length u - k) (v / 2 ^ k)) k (length-low_bits k v)) ∙ value-low_bits k v

-- a byte that is to hold k bits alone
last_value : (k : ℕ) (s : List Bool) → k ≤ 8 → 8 ≤ length s → value (take 8 (take k s)) ≡ value (take 8 s) % 2 ^ k
last_value k s few h =
    ap value
    (take_all 8 (take k s) (omega (arith, length-take-le k s (omega arith))) ∙ sym (take-take k 8 s few))
    ∙ value_low k (take 8 s) (omega (arith, length-take-le 8 s h))

-- behind m whole bytes
cut : (k m : ℕ) (s : List Bool) (out : List ℕ) (i : ℕ) → k ≤ 8 → 8 * m + 8 ≤ length s → i + m < length out
    → set (sets out i (pack_into (suc m) s)) (i + m) (get_or (sets out i (pack_into (suc m) s)) (i + m) 0 % 2 ^ k)
    ≡ sets out i (pack_into (suc m) (take (8 * m + k) s))
unfolding pack_into
cut k zero s out i few h l =
    let v = value (take 8 s) in
    let at : i + 0 ≡ i = add-zero i in
    let none : 8 * 0 + k ≡ k = omega arith in
    ap (λ j. set (set out i v) j (get_or (set out i v) j 0 % 2 ^ k)) at
    ∙ ap (λ x. set (set out i v) i (x % 2 ^ k)) (get_or-set_same out i v 0 (omega (arith, l)))
    ∙ set-set out i v (v % 2 ^ k) ∙ ap (set out i) (sym (last_value k s few (omega arith)))
    ∙ ap (λ n. set out i (value (take 8 (take n s)))) (sym none)
cut k (suc m) s out i few h l =
    let v = value (take 8 s) in
    let e : 8 * suc m + k ≡ 8 + (8 * m + k) = omega arith in
    let eight : 8 ≤ 8 + (8 * m + k) = omega arith in
    let q : 8 + (8 * m + k) ≤ length s = omega (arith, h, few) in
    let rest = sets (set out i v) (suc i) (pack_into (suc m) (drop 8 s)) in
    ap (λ j. set rest j (get_or rest j 0 % 2 ^ k)) (add-suc i m ∙ sym (suc-add i m))
    ∙ cut k m (drop 8 s) (set out i v) (suc i) few (omega (arith, length-drop 8 s)) (omega (arith, l, length-set out i v))
    ∙ sym (ap (λ n. sets (set out i (value (take 8 (take n s)))) (suc i) (pack_into (suc m) (drop 8 (take n s)))) e
    ∙ ap₂ (λ a b. sets (set out i (value a)) (suc i) (pack_into (suc m) b)) (take-take 8 (8 + (8 * m + k)) s eight) (drop-take 8 (8 * m + k) s q))

module _ (bits : ℕ) (s : List Bool) (out : List ℕ) where
  pub cut_content : 0 < bits % 8 → bits + 16 ≤ length s → bytes_for bits ≤ length out → {bytes : ℕ} {after : List ℕ} → bytes ≡ bytes_for bits
      → after ≡ sets out 0 (pack_into bytes s)
      → set after (bytes - 1) (get_or after (bytes - 1) 0 % 2 ^ (bits % 8)) ≡ sets out 0 (pack (take bits s))
  unfolding pack
  cut_content some h room {bytes} n e =
      let m = bits / 8 in
      let k = bits % 8 in
      let one : bytes ≡ suc m = omega (arith, n, some) in
      let last : bytes - 1 ≡ 0 + m = omega (arith, one) in
      let all : 8 * m + k ≡ bits = omega arith in
      let size : suc m ≡ bytes_for (length (take bits s)) = omega (arith, length-take-le bits s (omega (arith, h)), one, n) in
      ap₂ (λ a j. set a j (get_or a j 0 % 2 ^ k)) (e ∙ ap (λ c. sets out 0 (pack_into c s)) one) last
      ∙ cut k m s out 0 (omega arith) (omega (arith, h)) (omega (arith, room, one, n))
      ∙ ap₂ (λ c b. sets out 0 (pack_into c (take b s))) size all

  pub whole_content : bits % 8 ≡ 0 → bits + 16 ≤ length s → {bytes : ℕ} {after : List ℕ} → bytes ≡ bytes_for bits
      → after ≡ sets out 0 (pack_into bytes s) → after ≡ sets out 0 (pack (take bits s))
  whole_content z h {bytes} n e =
      let all : 8 * bytes ≡ bits = omega (arith, n, z) in
      e ∙ ap (sets out 0) (pack_into-pack bytes s (omega (arith, all)) ∙ ap (λ b. pack (take b s)) all)
