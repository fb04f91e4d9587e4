-- Questions 18 and 54 together ask whether the check received is the one computed. Assumes nothing.
use mathlib.Core.Path.{◌≡◌, refl, sym, ap, ap₂, ◌∙◌}
use mathlib.Core.Bool.{Bool, true, false, cond, true≢false}
use mathlib.Core.List.{List, [], ◌++◌}
use lib.ListN.{take, drop, take-append-drop}
use Rattle.bits.specs.Strings.{same}
use Rattle.bits.proofs.Strings.{same_sound, same_self}
use Rattle.block.specs.declared.Method.{Method}
use Rattle.block.specs.Read.{is_diagonal, first_asked, then_asked, ReadAnswer, refusal, ask_same}

sound : (a b : List Bool) → same a b ≡ true → a ≡ b
sound a b e = same_sound a b (rw e tt)

-- both answered yes
pub asked_both : (m : Method) (received computed : List Bool) → same (first_asked m received) (first_asked m computed) ≡ true
    → same (then_asked m received) (then_asked m computed) ≡ true → received ≡ computed
asked_both m r c = go (is_diagonal m)
  where
    go : (t : Bool) → same (cond t (take 8 r) r) (cond t (take 8 c) c) ≡ true → same (cond t (drop 8 r) []) (cond t (drop 8 c) []) ≡ true → r ≡ c
    go true e f =
        sym (take-append-drop 8 r) ∙ ap₂ ◌++◌ (sound (take 8 r) (take 8 c) e) (sound (drop 8 r) (drop 8 c) f) ∙ take-append-drop 8 c
    go false e f = sound r c e

-- the check computed passes both
pub first-self : (m : Method) {received computed : List Bool} → received ≡ computed → same (first_asked m received) (first_asked m computed) ≡ true
first-self m {computed = c} e = ap (λ x. same (first_asked m x) (first_asked m c)) e ∙ same_self (first_asked m c)

pub then-self : (m : Method) {received computed : List Bool} → received ≡ computed → same (then_asked m received) (then_asked m computed) ≡ true
then-self m {computed = c} e = ap (λ x. same (then_asked m x) (then_asked m c)) e ∙ same_self (then_asked m c)

module _ (m : Method) (received computed : List Bool) (next : ReadAnswer) where
  abbrev answered : Bool → Bool → ReadAnswer
  answered t u = cond t (cond u next (refusal 54 0)) (refusal 18 0)

  pub ask_equal : received ≡ computed → ask_same m received computed next ≡ next
  ask_equal e = ap₂ answered (first-self m e) (then-self m e)

  pub ask_right : same received computed ≡ true → ask_same m received computed next ≡ next
  ask_right e = ask_equal (sound received computed e)

  -- the first is right and the whole is not: the second is wrong
  pub ask_second : same received computed ≡ false → same (first_asked m received) (first_asked m computed) ≡ true
      → ask_same m received computed next ≡ refusal 54 0
  ask_second w e = go (same (then_asked m received) (then_asked m computed)) refl
    where
      go : (t : Bool) → same (then_asked m received) (then_asked m computed) ≡ t → ask_same m received computed next ≡ refusal 54 0
      go true f =
          let q = asked_both m received computed e f in
          absurd (true≢false (sym (ap (λ x. same x computed) q ∙ same_self computed) ∙ w))
      go false f = ap₂ answered e f

  pub ask_first : same (first_asked m received) (first_asked m computed) ≡ false → ask_same m received computed next ≡ refusal 18 0
  ask_first e = ap (λ t. answered t (same (then_asked m received) (then_asked m computed))) e
