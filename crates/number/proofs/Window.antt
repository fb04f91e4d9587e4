-- With w half the modulus the rule is document 01's: question 51 passes wherever 41 does. Assumes nothing.
use Rattle.std.proofs.Common.{◌≡◌, ℕ, ◌-◌, ◌/◌, ◌^◌, ◌≤◌, Bool, true, false, ◌&&◌, leb, refl, ap, arith, pow_mono, leb-true}
use mathlib.Core.Bool.{false≢true}
use Rattle.number.specs.Number.{Verdict, ask, within, verdict_for, outcome, receiving}
use Rattle.number.specs.Window.{verdict_before, JudgedAsBefore}
use Rattle.number.proofs.Outcomes.{inside}

at_least : (lo hi x : ℕ) → within lo hi x ≡ true → lo ≤ x
at_least lo hi x h = go (leb lo x) refl h
  where
    go : (t : Bool) → leb lo x ≡ t → (t && leb x hi) ≡ true → lo ≤ x
    go true e h = leb-true lo x e
    go false e h = absurd (false≢true h)

half_passes : (n : ℕ) → within 1 7 n ≡ true → within 1 (2 ^ n - 1) (2 ^ n / 2) ≡ true
half_passes n h =
    let two : 2 ≤ 2 ^ n = pow_mono {i = 1} {j = n} (at_least 1 7 n h) in
    inside 1 (2 ^ n - 1) (2 ^ n / 2) (omega arith) (omega arith)

-- what follows a question matters only where it passes
asked : (t : Bool) (number : ℕ) {x y : Verdict} → (t ≡ true → x ≡ y) → ask t number x ≡ ask t number y
asked true number e = e refl
asked false number e = refl

pub judged_as_before : JudgedAsBefore
unfolding receiving verdict_for verdict_before
judged_as_before n c b = ap (outcome n (2 ^ n / 2) c) (asked (within 1 7 n) 41 (λ h. rw (half_passes n h)))
