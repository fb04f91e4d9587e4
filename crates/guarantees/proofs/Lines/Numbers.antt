-- A refusal's number is none of those before the output's just where it is the output's. Assumes nothing.
use mathlib.Core.Path.{◌≡◌, sym, ap, ◌∙◌}
use mathlib.Core.Logic.{◌↔◌}
use Prim.Native.Nat.{ℕ}
use mathlib.Core.Bool.{true, true≢false}
use mathlib.Core.List.{List}
use Rattle.guarantees.specs.Lines.{is_one_of, NoneOf}

-- one of the numbers listed, or the last: the one for the output
pub data Numbered (ks : List ℕ) (last n : ℕ) : Type 0 where
  listed : is_one_of ks n ≡ true → Numbered ks last n
  for_output : n ≡ last → Numbered ks last n

module _ (ks : List ℕ) (last n : ℕ) (apart : NoneOf ks last) where
  pub only_last : Numbered ks last n → (n ≡ last) ↔ NoneOf ks n
  only_last (listed h) = (λ e. ap (is_one_of ks) e ∙ apart, λ none. absurd (true≢false (sym h ∙ none)))
  only_last (for_output e) = (λ q. ap (is_one_of ks) q ∙ apart, λ none. e)

  pub listed_not_last : is_one_of ks n ≡ true → n ≡ last → ⊥
  listed_not_last h e = true≢false (sym h ∙ ap (is_one_of ks) e ∙ apart)
