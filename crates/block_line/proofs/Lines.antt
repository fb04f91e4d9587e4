-- The line put together from its parts. Assumes nothing.
use mathlib.Core.Path.{◌≡◌, refl, sym, ap, ap₂, ◌∙◌}
use Prim.Native.Nat.{ℕ}
use mathlib.Core.Bool.{Bool, true, false, cond}
use mathlib.Core.List.{List, [], ◌∷◌, ◌++◌, map}
use Rattle.bits.specs.Bytes.{pack}
use Rattle.block.specs.declared.Method.{Method}
use Rattle.block.specs.declared.Parity.{Parity}
use Rattle.block.specs.declared.Shape.{Shape}
use Rattle.block.specs.declared.EndSign.{EndSign}
use Rattle.block.specs.Signs.{CodeTable, end_byte}
use Rattle.block.specs.Characters.{is_seven, sent}
use Rattle.block.specs.Check.{check_of}
use Rattle.block.specs.Write.{is_clear, start_signs, inner_signs, escaped, counted_bytes, framed_bytes, line_of}
use Rattle.block.proofs.Lists.{map-append}
use Rattle.block_signs.specs.Signs.{end_signs}
use Rattle.block_checks.proofs.Checks.{sent-eight}
use Rattle.block_store.specs.Store.{Stored}
use Rattle.block_store.proofs.Stores.{stored_as, stored-append}
use Rattle.block_line.specs.Line.{text_bytes}

-- text and end sign as the rule gives them
pub framed-parts : (t : CodeTable) (m : Method) (p : Parity) (s : Shape) (e : EndSign) (head body : List ℕ)
    → framed_bytes t m p s e head body
    ≡ map (sent (is_seven m) p) (start_signs t s ++ (head ++ (inner_signs t s ++ (text_bytes t (is_clear s) body ++ end_signs t (is_clear s) e))))
unfolding framed_bytes text_bytes
framed-parts t m p s e head body = ap (λ l. map (sent (is_seven m) p) (start_signs t s ++ (head ++ (inner_signs t s ++ l)))) (go (is_clear s))
  where
    go : (clear : Bool) → cond clear (escaped t body ++ t.DLE ∷ end_byte t e ∷ []) (body ++ end_byte t e ∷ [])
        ≡ cond clear (escaped t body) body ++ cond clear (t.DLE ∷ end_byte t e ∷ []) (end_byte t e ∷ [])
    go true = refl
    go false = refl

module _ (t : CodeTable) (m : Method) (p : Parity) (s : Shape) (e : EndSign) (head body : List ℕ) where
  f : ℕ → ℕ
  f = sent (is_seven m) p

  framed : map f (start_signs t s) ++ (map f head ++ (map f (inner_signs t s) ++ (map f (text_bytes t (is_clear s) body) ++ map f (end_signs t (is_clear s) e))))
      ≡ framed_bytes t m p s e head body
  unfolding f
  framed =
      let text = text_bytes t (is_clear s) body in
      let ending = end_signs t (is_clear s) e in
      sym
      (framed-parts t m p s e head body ∙ map-append f (start_signs t s) (head ++ (inner_signs t s ++ (text ++ ending)))
      ∙ ap (λ l. map f (start_signs t s) ++ l)
      (map-append f head (inner_signs t s ++ (text ++ ending))
      ∙ ap (λ l. map f head ++ l) (map-append f (inner_signs t s) (text ++ ending) ∙ ap (λ l. map f (inner_signs t s) ++ l) (map-append f text ending))))

  pub line_of_lem : {seven clear : Bool} {t₁ t₃ t₅ t₆ o₁ o₂ o₃ o₄ o₅ o₆ out : List ℕ} {n₁ n₂ n₃ n₄ n₅ n₆ : ℕ} → seven ≡ is_seven m → clear ≡ is_clear s
      → t₁ ≡ start_signs t s → t₃ ≡ inner_signs t s → t₅ ≡ end_signs t clear e → t₆ ≡ pack (check_of m p (counted_bytes t m p s e head body))
      → Stored out 0 (map (sent seven p) t₁) o₁ n₁ → Stored o₁ n₁ (map (sent seven p) head) o₂ n₂
      → Stored o₂ n₂ (map (sent seven p) t₃) o₃ n₃ → Stored o₃ n₃ (map (sent seven p) (text_bytes t clear body)) o₄ n₄
      → Stored o₄ n₄ (map (sent seven p) t₅) o₅ n₅ → Stored o₅ n₅ (map (sent false p) t₆) o₆ n₆
      → Stored out 0 (line_of t m p s e head body) o₆ n₆
  unfolding line_of f
  line_of_lem {seven} v w h₁ h₃ h₅ h₆ a b c d k z =
      let g : ℕ → ℕ = sent seven p in
      stored_as
      (ap₂ ◌++◌
      (ap₂
      (λ x u. map (sent x p) (start_signs t s) ++ (map (sent x p) head ++ (map (sent x p) (inner_signs t s) ++ (map (sent x p) (text_bytes t u body) ++ map (sent x p) (end_signs t u e)))))
      v w ∙ framed)
      (sent-eight p (pack (check_of m p (counted_bytes t m p s e head body)))))
      (stored-append (stored-append (stored_as (ap (map g) h₁) a) (stored-append b (stored-append (stored_as (ap (map g) h₃) c) (stored-append d (stored_as (ap (map g) h₅) k)))))
      (stored_as (ap (map (sent false p)) h₆) z))
