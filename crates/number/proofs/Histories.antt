-- Over any list of received numbers, n and w the same throughout, the awaited number is the rule's after every step. Assumes nothing.
use Rattle.std.proofs.Common.{◌≡◌, ℕ, zero, suc, ◌+◌, ◌%◌, ◌^◌, ◌<◌, ◌≤◌, List, [], ◌∷◌, map, length, get_or, take, replicate, sym, refl, ap, ◌∙◌, ap₂, mod-lt, mod-eq_of_lt, arith, pow_pos}
use native.Mathlib.Nat.{mod-add-mod}
use Rattle.number.specs.declared.NumberRecord.{NumberRecord}
use Rattle.number.specs.declared.NumberResult.{NumberResult}
use Rattle.number.specs.Number.{Verdict, new, repeat, lost, refused, Outcome, verdict_for, awaited_after, outcome, receiving}
use Rattle.number.specs.Answers.{outcome_of}
use Rattle.number.specs.History.{history, is_new, count_new, in_sequence, Calls, none, call}
use Rattle.number.proofs.Residues.{residue_unique}
use Rattle.number.proofs.Outcomes.{all_right}

-- the results of calls, one after the other, are the rule's at every step
pub every-step : {held : NumberRecord} {bs : List ℕ} {rs : List NumberResult} → Calls held bs rs
    → map outcome_of rs ≡ history held.n held.w held.c bs
unfolding history receiving
every-step none = refl
every-step (call {held} {bs} {rs} b r e calls) =
    ap₂ (λ x y. x ∷ y) e (every-step calls ∙ ap (λ (o : Outcome). history o.n o.w o.c bs) e)

-- ---- after every step c has moved on once for each number that was new up to then

moved : (n c : ℕ) (v : Verdict) → c < 2 ^ n → awaited_after n c v ≡ (c + is_new v) % 2 ^ n
moved n c new h = refl
moved n c repeat h = sym (ap (λ z. z % 2 ^ n) (omega arith) ∙ mod-eq_of_lt h)
moved n c lost h = sym (ap (λ z. z % 2 ^ n) (omega arith) ∙ mod-eq_of_lt h)
moved n c (refused k) h = sym (ap (λ z. z % 2 ^ n) (omega arith) ∙ mod-eq_of_lt h)

pub awaited_counts_new : (n w c : ℕ) (bs : List ℕ) (i : ℕ) (o : Outcome) → c < 2 ^ n → i < length bs
    → (get_or (history n w c bs) i o).c ≡ (c + count_new (take (suc i) (history n w c bs))) % 2 ^ n
unfolding history receiving
awaited_counts_new n w c [] i o h l = absurd (omega arith)
awaited_counts_new n w c (b ∷ bs) zero o h l = moved n c (verdict_for n w c b) h ∙ ap (λ z. (c + z) % 2 ^ n) (omega arith)
awaited_counts_new n w c (b ∷ bs) (suc i) o h l =
    let v = verdict_for n w c b in
    let c' = awaited_after n c v in
    let e : c' ≡ (c + is_new v) % 2 ^ n = moved n c v h in
    let k = count_new (take (suc i) (history n w c' bs)) in
    let s : c + is_new v + k ≡ c + (is_new v + k) = omega arith in
    awaited_counts_new n w c' bs i o (rw e (mod-lt (c + is_new v) (pow_pos n))) (omega arith)
    ∙ ap (λ z. (z + k) % 2 ^ n) e ∙ mod-add-mod (c + is_new v) (2 ^ n) k ∙ ap (λ z. z % 2 ^ n) s

-- ---- numbers that come in sequence are all new

module _ (n w : ℕ) (n-from : 1 ≤ n) (n-to : n ≤ 7) (w-from : 1 ≤ w) (w-to : w < 2 ^ n) where
  pub sequence_is_new : (c k : ℕ) → c < 2 ^ n → map (λ (o : Outcome). o.verdict) (history n w c (in_sequence n c k)) ≡ replicate k new
  unfolding history
  sequence_is_new c zero h = refl
  sequence_is_new c (suc k) h =
      let d = residue_unique (2 ^ n) c c 0 (record { below = pow_pos n; congruent = ap (λ z. z % 2 ^ n) (omega arith) }) in
      let o : receiving n w c c ≡ outcome n w c new = sym (all_right n w c c n-from n-to w-from w-to h h d refl) in
      ap₂ (λ (x : Outcome) (y : List Verdict). x.verdict ∷ y) o
      (ap (λ (x : Outcome). map (λ (o : Outcome). o.verdict) (history n w x.c (in_sequence n ((c + 1) % 2 ^ n) k))) o
      ∙ sequence_is_new ((c + 1) % 2 ^ n) k (mod-lt (c + 1) (pow_pos n)))
