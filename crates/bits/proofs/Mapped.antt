-- What `map_err` leaves of a `Result`: its value as it was, or what was made of its error. Assumes nothing.
use mathlib.Core.Path.{◌≡◌, refl, ap, subst}
use Prim.Native.Nat.{ℕ}
use native.Mathlib.Omega.{arith}
use Rattle.std.specs.Prelude.{Result, Ok, Err, IsErrAnd, MatchResult}

module _ {T E D : Type 0} (P : E → D → Type 0) where
  abbrev Maps : Result T E → Result T D → Type 0
  Maps r m = MatchResult r (λ x. m ≡ Ok x) (λ e. IsErrAnd m (P e))

  pub value_kept : (r : Result T E) {m : Result T D} → Maps r m → {x : T} → m ≡ Ok x → r ≡ Ok x
  value_kept (Ok y) {m} h {x} q =
      let e : m ≡ Ok y = h in
      let same : y ≡ x = cc in
      ap Ok same
  value_kept (Err y) h q = absurd (subst (λ z. IsErrAnd z (P y)) q h)

  pub error_mapped : (r : Result T E) {m : Result T D} → Maps r m → {d : D} → m ≡ Err d → (e : E) × (r ≡ Err e) × P e d
  error_mapped (Ok y) {m} h {d} q =
      let e : m ≡ Ok y = h in
      absurd (let z : ◌≡◌ {A = ℕ} 0 1 = cc in omega arith)
  error_mapped (Err y) h q = (y, refl, subst (λ z. IsErrAnd z (P y)) q h)
