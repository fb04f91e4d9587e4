-- The register that the bits entered through the method's table holds their formula. Assumes nothing.
use mathlib.Core.Path.{◌≡◌, refl, sym, ap, ap₂, subst, ◌∙◌}
use mathlib.Core.Bool.{Bool}
use mathlib.Core.List.{List, ◌++◌}
use Prim.Native.Nat.{ℕ, ◌+◌, ◌^◌, ◌<◌}
use native.Mathlib.Nat.{mod-eq_of_lt, zero-add}
use native.Mathlib.Omega.{arith}
use lib.ListN.{length}
use Rattle.bits.specs.Strings.{xor_bits, zeros}
use Rattle.bits.specs.Bytes.{low_bits, value}
use Rattle.bits.proofs.Bytes.{value-low_bits}
use Rattle.division.specs.Division.{remainder}
use Rattle.cyclic.specs.Check.{Parameters, formula}
use Rattle.cyclic.specs.Laws.{OfWidth}
use Rattle.registers.specs.Register.{table_of, enter, enter_string_by_table}
use Rattle.registers.proofs.Enter.{enter_is_formula}
use Rattle.registers.proofs.Bits.{table_enters_string, enter_string_by_table_lt}
use Rattle.frame.specs.Stuffing.{Unstuffed, clean, missing}
use Rattle.frame_walk.specs.Walk.{Walked, closed, walk_zeros}
use Rattle.frame_walk.specs.Steps.{passed}

module _ (j : ℕ) (m : Parameters) (o : OfWidth (8 + j) m) {start : ℕ} (began : low_bits (8 + j) start ≡ m.start) (fits : start < 2 ^ (8 + j))
    {table : List ℕ} (t : table ≡ table_of (8 + j) m.generator)
  where
    register_bits : (s : List Bool) → low_bits (8 + j) (enter_string_by_table table start s) ≡ formula m s
    unfolding formula
    register_bits s =
        let p = m.generator in
        let wide = o.generator.width in
        ap (λ z. low_bits (8 + j) (enter_string_by_table z start s)) t
        ∙ table_enters_string j p wide start s fits
        ∙ ap (λ r. enter p r s) began
        ∙ enter_is_formula (8 + j) p m.start s (omega arith) wide o.start-length
        ∙ ap (λ k. remainder p (xor_bits (s ++ zeros k) (m.start ++ zeros (length s)))) (sym wide)

    register_value : (s : List Bool) → enter_string_by_table table start s ≡ value (formula m s)
    register_value s =
        let r = enter_string_by_table table start s in
        let below : r < 2 ^ (8 + j) =
        subst (λ (z : List ℕ). enter_string_by_table z start s < 2 ^ (8 + j)) (sym t) (enter_string_by_table_lt j m.generator o.generator.width start s fits) in
        sym (ap value (sym (register_bits s)) ∙ value-low_bits (8 + j) r ∙ mod-eq_of_lt below)

    -- so a pass with the method's table and start is the rule's walk
    passed-zeros : (end : ℕ) (u : Unstuffed) → passed table end start 0 u ≡ walk_zeros m end u
    unfolding passed walk_zeros
    passed-zeros end (missing p) = refl
    passed-zeros end (clean s) = ap₂ (closed end) (zero-add (length s)) (register_value s)

    pub walked : (end : ℕ) (u : Unstuffed) {w : Walked} → w ≡ passed table end start 0 u → w ≡ walk_zeros m end u
    walked end u e = e ∙ passed-zeros end u
