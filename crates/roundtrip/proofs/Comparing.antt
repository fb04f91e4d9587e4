-- Comparing decides: parts are told from the start of a list one after the other, and a test that failed denies the whole. Assumes nothing.
use mathlib.Core.Path.{◌≡◌, refl, sym, ap, ap₂, ◌∙◌}
use Prim.Native.Nat.{ℕ, ◌+◌, ◌-◌}
use native.Mathlib.Omega.{arith}
use mathlib.Core.Bool.{Bool, true, false, cond}
use mathlib.Core.List.{List, ◌++◌}
use lib.Dec.{leb}
use lib.ListN.{length, take, drop}
use lib.Seq.{take-add, take-take, take_at, drop_at}
use Rattle.std.specs.Bool.{Decides}
use Rattle.roundtrip.specs.Returns.{Returned, returned}

-- an answer, a line and an output, each by the rule
pub joined : {a a₁ : Returned} {l l₁ o o₁ : List ℕ} → a ≡ a₁ → l ≡ l₁ → o ≡ o₁ → returned a l o ≡ returned a₁ l₁ o₁
joined a l o = cc

-- answers whose last question is that for room, `size` of what was read: where one output was long enough, the answer for another
module _ {Read Answer : Type 0} (taken : Read → Answer) (refusal : ℕ → ℕ → Answer) (size : Read → ℕ) (number : ℕ)
    (one_to_one : (a b : Read) → taken a ≡ taken b → a ≡ b) (not_taken : (n v : ℕ) (b : Read) → refusal n v ≡ taken b → ⊥) where
  abbrev pub by_room : Read → ℕ → Answer
  by_room b room = cond (leb (size b) room) (taken b) (refusal number (size b))

  pub of_room : (holds : Bool) (a b : Read) (room : ℕ) → cond holds (taken a) (refusal number (size a)) ≡ taken b → by_room a room ≡ by_room b room
  of_room true a b room e = ap (λ z. by_room z room) (one_to_one a b e)
  of_room false a b room e = absurd (not_taken number (size a) b e)

  -- a question before it
  pub behind : (right : Bool) (n v : ℕ) (b : Read) (room : ℕ) {x y : Answer} → (x ≡ taken b → y ≡ by_room b room) → cond right x (refusal n v) ≡ taken b
      → cond right y (refusal n v) ≡ by_room b room
  behind true n v b room next e = next e
  behind false n v b room next e = absurd (not_taken n v b e)

not-both : {t : Bool} → t ≡ false → t ≡ true → ⊥
not-both f e = let z : ◌≡◌ {A = ℕ} 0 1 = cc in omega arith

pub denied : {A : Type 0} → (A → ⊥) → Decides false A
denied never = (λ e. absurd (not-both refl e), λ a. absurd (never a))

pub failed : {A : Type 0} {t : Bool} → Decides t A → t ≡ false → A → ⊥
failed d f a = not-both f (d.1 a)

module _ (head body out : List ℕ) {first : Bool} (d : Decides first (head ≡ take (length head) out)) where
  abbrev Starts : Type 0
  Starts = take (length head + length body) out ≡ head ++ body

  halves : take (length head + length body) out ≡ take (length head) out ++ take (length body) (drop (length head) out)
  halves = take-add (length head) (length body) out

  first_half : Starts → head ≡ take (length head) out
  first_half e =
      sym (take_at head body (length head) refl) ∙ sym (ap (take (length head)) e) ∙ take-take (length head) (length head + length body) out (omega arith)

  pub parts_differ : first ≡ false → Decides false Starts
  parts_differ f = denied (λ e. failed d f (first_half e))

  same_number : length head + length body - length head ≡ length body
  same_number = omega arith

  pub parts_same : first ≡ true → {second : Bool} → Decides second (body ≡ take (length head + length body - length head) (drop (length head) out))
      → Decides second Starts
  parts_same t s = (
    λ e. halves ∙ sym (ap₂ ◌++◌ (d.0 t) (s.0 e ∙ ap (λ n. take n (drop (length head) out)) same_number)),
    λ e. s.1 (second_half e ∙ sym (ap (λ n. take n (drop (length head) out)) same_number)),
  )
    where
      second_half : Starts → body ≡ take (length body) (drop (length head) out)
      second_half e =
          sym (drop_at head body (length head) refl)
          ∙ ap (drop (length head)) (sym e ∙ halves ∙ ap (λ z. z ++ take (length body) (drop (length head) out)) (sym (first_half e)))
          ∙ drop_at head (take (length body) (drop (length head) out)) (length head) refl
