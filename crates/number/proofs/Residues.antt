-- The difference modulo m is the residue of the whole number c − b, and the only one. Assumes nothing.
use Rattle.std.proofs.Common.{◌≡◌, ℕ, ◌+◌, ◌-◌, ◌*◌, ◌/◌, ◌%◌, ◌^◌, ◌<◌, ◌≤◌, sym, ap, ◌∙◌, mod-lt, mod-eq_of_lt, add-mul, one-mul, div-add-mod', arith, pow_pos}
use native.Mathlib.Nat.{mod-add-mod, add-mod-mod, add-mul-mod_self_right}
use lib.Pow.{mod-mod-pow, pow-lt}
use Rattle.number.specs.Number.{difference, Residue}

-- b and m − b modulo m are a multiple of m
complement : (m x b : ℕ) → 0 < m → (b + (x + (m - b % m))) % m ≡ x % m
complement m x b h =
    let e : b + (x + (m - b % m)) ≡ x + (b / m + 1) * m = omega (arith, div-add-mod' b m, mod-lt b h, add-mul (b / m) 1 m, one-mul m) in
    ap (λ z. z % m) e ∙ add-mul-mod_self_right x (b / m + 1) m

pub difference_residue : (m c b : ℕ) → 0 < m → Residue m c b (difference m c b)
unfolding difference
difference_residue m c b h =
    record { below = mod-lt (c + (m - b % m)) h; congruent = add-mod-mod b (c + (m - b % m)) m ∙ complement m c b h }

pub residue_unique : (m c b d : ℕ) → Residue m c b d → d ≡ difference m c b
unfolding difference
residue_unique m c b d r =
    let h : 0 < m = omega (arith, r.below) in
    let e : b + d + (m - b % m) ≡ b + (d + (m - b % m)) = omega arith in
    sym
    (sym (mod-add-mod c m (m - b % m)) ∙ ap (λ z. (z + (m - b % m)) % m) (sym r.congruent) ∙ mod-add-mod (b + d) m (m - b % m)
    ∙ ap (λ z. z % m) e ∙ complement m d b h ∙ mod-eq_of_lt r.below)

-- a difference that wraps at 2^8 is one that wraps at 2^n
pub wrapped : (n c b s : ℕ) → n ≤ 8 → (s + b) % 2 ^ 8 ≡ c → s % 2 ^ n ≡ difference (2 ^ n) c b
wrapped n c b s h e =
    let w : 8 - n + n ≡ 8 = omega arith in
    let f : b + s ≡ s + b = omega arith in
    residue_unique (2 ^ n) c b (s % 2 ^ n)
    (record {
      below = mod-lt s (pow_pos n);
      congruent =
          add-mod-mod b s (2 ^ n) ∙ ap (λ z. z % 2 ^ n) f ∙ sym (mod-mod-pow (s + b) (8 - n) n)
          ∙ ap (λ z. (s + b) % 2 ^ z % 2 ^ n) w ∙ ap (λ z. z % 2 ^ n) e;
    })

-- 2^n fits a byte
pub shifted : (n : ℕ) → n ≤ 7 → 1 * 2 ^ n % 2 ^ 8 ≡ 2 ^ n
shifted n h = rw one-mul (mod-eq_of_lt (pow-lt {i = n} {j = 8} (omega arith)))
