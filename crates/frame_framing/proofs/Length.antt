-- Questions 35 and 36, and question 37 as a receiver puts it: the register after content and check is one fixed number exactly where the
-- check is the rule's. Assumes nothing.
use mathlib.Core.Path.{◌≡◌, sym, ap, ap₂, ◌∙◌}
use mathlib.Core.Bool.{Bool}
use mathlib.Core.List.{List, ◌++◌}
use Prim.Native.Nat.{ℕ, ◌+◌, ◌-◌, ◌<◌, ◌≤◌}
use native.Mathlib.Nat.{mod-eq_of_lt}
use native.Mathlib.Omega.{arith}
use borrow.Author.Tests.{le-leb, lt-leb}
use lib.Dec.{eqb}
use lib.ListN.{length, length-drop, take-append-drop}
use Rattle.bits.specs.Strings.{same}
use Rattle.bits.specs.Bytes.{low_bits, value}
use Rattle.bits.proofs.Bytes.{low_bits-value, value-low_bits, equal_as_bits}
use Rattle.division.proofs.Linear.{length-remainder}
use Rattle.cyclic.specs.Check.{Parameters, formula, check_bits}
use Rattle.frame.specs.Frame.{width, limit_bits}
use Rattle.frame.specs.Read.{ask_length, content_of, check_in}
use Rattle.frame_framing.specs.Framing.{found, unframed, answer_of}
use Rattle.frame_framing.specs.Steps.{Leaves}

module _ (m : Parameters) (end : ℕ) (s : List Bool) {count : ℕ} (counted : count ≡ length s) where
  pub no_content : count < 1 + width m → unframed 35 0 ≡ answer_of m end (ask_length m s)
  no_content h =
      let d : length s < 1 + width m = omega (arith, counted) in
      sym (simp (lt-leb (1 + width m) (length s) d))

  module _ (content : 1 + width m ≤ count) where
    content_data : 1 + width m ≤ length s
    content_data = omega (arith, counted)

    pub too_long : limit_bits m + width m < count → unframed 36 0 ≡ answer_of m end (ask_length m s)
    too_long h =
        let d : limit_bits m + width m < length s = omega (arith, counted) in
        sym (simp (le-leb (1 + width m) (length s) content_data, lt-leb (length s) (limit_bits m + width m) d))

    module _ {register fixed : ℕ} (held : register ≡ value (formula m s)) (l : Leaves m fixed) where
      register_bits : low_bits l.wide register ≡ formula m s
      unfolding formula
      register_bits =
          let e : length (formula m s) ≡ l.wide = length-remainder m.generator _ ∙ l.width_is in
          ap₂ low_bits (sym e) held ∙ low_bits-value (formula m s)

      check-right : eqb register fixed ≡ same (check_in m s) (check_bits m (content_of m s))
      check-right =
          let c = content_of m s in
          let k = check_in m s in
          let n : length k ≡ l.wide = omega (arith, length-drop (length s - width m) s, content_data, l.width_is) in
          let both : formula m (c ++ k) ≡ formula m s = ap (formula m) (take-append-drop (length s - width m) s) in
          equal_as_bits register fixed k (check_bits m c)
          (λ e. (l.receives c k n).0 (both ∙ sym register_bits ∙ ap (low_bits l.wide) e))
          (λ e. held ∙ ap value (sym both ∙ (l.receives c k n).1 e) ∙ value-low_bits l.wide fixed ∙ mod-eq_of_lt l.small)

      pub within_limit : count ≤ limit_bits m + width m → found end count (eqb register fixed) ≡ answer_of m end (ask_length m s)
      within_limit h =
          let d : length s ≤ limit_bits m + width m = omega (arith, counted) in
          ap₂ (found end) counted check-right
          ∙ sym (simp (le-leb (1 + width m) (length s) content_data, le-leb (length s) (limit_bits m + width m) d))
