-- Steps back on a ring. Assumes nothing.
use Rattle.std.proofs.Common.{◌≡◌, ℕ, suc, ◌+◌, ◌-◌, ◌*◌, ◌/◌, ◌%◌, ◌<◌, ◌≤◌, Bool, true, false, ltb, refl, sym, ap, ◌∙◌, mod-lt, mod-eq_of_lt, div-add-mod', arith, ltb-true, ltb-false}
use native.Mathlib.Nat.{mod_self, mod-add-mod, add-mod_right, mod-eq-sub-mod, mul-add-mod_self_right}
use Rattle.sender.specs.Ring.{back}

module _ (m x : ℕ) where
  -- one step on, and back, without a division
  pub next-below : x < m → (x + 1 ≡ m → ⊥) → x + 1 ≡ (x + 1) % m
  next-below h ne = let l : x + 1 < m = omega arith in sym (mod-eq_of_lt l)

  pub next-wraps : x + 1 ≡ m → 0 ≡ (x + 1) % m
  next-wraps e = sym (ap (λ k. k % m) e ∙ mod_self m)

  pub back-within : (d : ℕ) → d < m → x + (m - 1 - d) < m → x + (m - 1 - d) ≡ back m x d
  unfolding back
  back-within d l h =
      let e : m - 1 - d ≡ m - suc d = omega arith in
      sym (ap (λ k. (x + k) % m) (sym e) ∙ mod-eq_of_lt h)

  pub back-around : (d : ℕ) → x < m → d < m → m ≤ x + (m - 1 - d) → x + (m - 1 - d) - m ≡ back m x d
  unfolding back
  back-around d g l h =
      let e : m - 1 - d ≡ m - suc d = omega arith in
      let i : x + (m - 1 - d) - m < m = omega arith in
      sym (ap (λ k. (x + k) % m) (sym e) ∙ mod-eq-sub-mod h ∙ mod-eq_of_lt i)

  pub back-below : (d : ℕ) → 0 < m → back m x d < m
  unfolding back
  back-below d h = mod-lt (x + (m - suc d)) h

  -- as many steps back as lead to the place d + 1 steps back, that place taken for a count, are d
  pub back-back : (d : ℕ) → d < m → back m x (back m x d) ≡ d
  unfolding back
  back-back d h =
      let q = (x + (m - suc d)) / m in
      let y = (x + (m - suc d)) % m in
      let e : q * m + y ≡ x + (m - suc d) = div-add-mod' (x + (m - suc d)) m in
      let l : y < m = mod-lt (x + (m - suc d)) (omega arith) in
      let f : x + (m - suc y) ≡ q * m + d = omega arith in
      ap (λ z. z % m) f ∙ mul-add-mod_self_right q m d ∙ mod-eq_of_lt h

  -- one step back from the place behind x
  pub back-next : x < m → back m ((x + 1) % m) 0 ≡ x
  unfolding back
  back-next h =
      let e : x + 1 + (m - suc 0) ≡ x + m = omega arith in
      mod-add-mod (x + 1) m (m - suc 0) ∙ ap (λ z. z % m) e ∙ add-mod_right x m ∙ mod-eq_of_lt h

  pub back-suc : (d : ℕ) → suc d < m → back m ((x + 1) % m) (suc d) ≡ back m x d
  unfolding back
  back-suc d h =
      let e : x + 1 + (m - suc (suc d)) ≡ x + (m - suc d) = omega arith in
      mod-add-mod (x + 1) m (m - suc (suc d)) ∙ ap (λ z. z % m) e

  -- fewer than m steps do not lead back to x
  pub back-other : (d : ℕ) → x < m → suc d < m → back m x d ≡ x → ⊥
  unfolding back
  back-other d l h e = go (ltb (x + (m - suc d)) m) refl
    where
      go : (t : Bool) → ltb (x + (m - suc d)) m ≡ t → ⊥
      go true p =
          let y = x + (m - suc d) in
          let i : y < m = ltb-true y m p in
          let r : y % m ≡ y = mod-eq_of_lt i in
          omega arith
      go false p =
          let y = x + (m - suc d) in
          let i : m ≤ y = ltb-false y m p in
          let j : y - m < m = omega arith in
          let r : y % m ≡ y - m = mod-eq-sub-mod i ∙ mod-eq_of_lt j in
          omega arith

  -- the place d + 1 steps back from k on the unwound ring
  pub back-of : (k d : ℕ) → x ≡ k % m → d < k → d < m → back m x d ≡ (k - suc d) % m
  unfolding back
  back-of k d e h l =
      let f : k + (m - suc d) ≡ k - suc d + m = omega arith in
      ap (λ z. (z + (m - suc d)) % m) e ∙ mod-add-mod k m (m - suc d) ∙ ap (λ z. z % m) f ∙ add-mod_right (k - suc d) m
