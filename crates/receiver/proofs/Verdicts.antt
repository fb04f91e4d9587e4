-- What the number check says of a record that passes 41, 51 and 42. Assumes nothing.
use Rattle.std.proofs.Common.{◌≡◌, ℕ, ◌+◌, ◌-◌, ◌%◌, ◌^◌, ◌<◌, ◌≤◌, Bool, true, false, cond, eqb, leb, sym, ap, ◌∙◌, arith, mod-eq_of_lt, pow_pos, lt-ltb, eqb-true, eq-eqb, refl}
use Rattle.number.specs.Number.{new, repeat, lost, difference, judged, verdict_for}
use Rattle.number.proofs.Residues.{difference_residue, residue_unique}
use Rattle.number.proofs.Outcomes.{inside}
use Rattle.orders.specs.declared.CyclicMethod.{CyclicMethod}
use Rattle.orders.specs.Methods.{byte_of}
use Rattle.receiver.specs.declared.Receiver.{Receiver}
use Rattle.receiver.specs.Receiver.{record_right, verdict_on, awaiting, noted, not_noted, noting, on_order, telling_order}
use Rattle.receiver.proofs.Telling.{record_passes}

-- all that 41, 51 and 42 ask
pub record Right (r : Receiver) : Type 0 where
  pub n_least : 1 ≤ r.n
  pub n_most : r.n ≤ 7
  pub w_least : 1 ≤ r.w
  pub w_below : r.w < 2 ^ r.n
  pub record_kept : record_right r ≡ true
  pub c_below : r.c < 2 ^ r.n

judged-new : (w d : ℕ) → judged w d ≡ new → d ≡ 0
judged-new w d e = go (eqb d 0) (leb d w) refl e
  where
    go : (t u : Bool) → eqb d 0 ≡ t → cond t new (cond u repeat lost) ≡ new → d ≡ 0
    go true u p q = eqb-true d 0 p
    go false true p q = let x : ◌≡◌ {A = ℕ} 0 1 = cc in absurd (omega arith)
    go false false p q = let x : ◌≡◌ {A = ℕ} 0 1 = cc in absurd (omega arith)

module _ (r : Receiver) (b : ℕ) (z : Right r) (below : b < 2 ^ r.n) where
  pub right_judged : verdict_on r b ≡ judged r.w (difference (2 ^ r.n) r.c b)
  unfolding verdict_for
  right_judged =
      record_passes r b (z.n_least) (z.n_most) (z.record_kept)
      ∙ rw (inside 1 7 r.n (z.n_least) (z.n_most), inside 1 (2 ^ r.n - 1) r.w (z.w_least) (omega (arith, z.w_below)), lt-ltb r.c (2 ^ r.n) (z.c_below), lt-ltb b (2 ^ r.n) below)

  -- only the awaited number is new
  pub new_awaited : verdict_on r b ≡ new → b ≡ r.c
  new_awaited e =
      let d : difference (2 ^ r.n) r.c b ≡ 0 = judged-new r.w (difference (2 ^ r.n) r.c b) (sym right_judged ∙ e) in
      let f : (b + difference (2 ^ r.n) r.c b) % 2 ^ r.n ≡ r.c % 2 ^ r.n = (difference_residue (2 ^ r.n) r.c b (pow_pos r.n)).congruent in
      let s : b + difference (2 ^ r.n) r.c b ≡ b = omega arith in
      sym (mod-eq_of_lt below) ∙ ap (λ k. k % 2 ^ r.n) (sym s) ∙ f ∙ mod-eq_of_lt (z.c_below)

  -- and it is
  pub awaited_new : b ≡ r.c → verdict_on r b ≡ new
  awaited_new e =
      let s : b + 0 ≡ r.c = omega arith in
      let d : 0 ≡ difference (2 ^ r.n) r.c b =
      residue_unique (2 ^ r.n) r.c b 0 (record { below = pow_pos r.n; congruent = ap (λ k. k % 2 ^ r.n) s }) in
      right_judged ∙ rw (eq-eqb (difference (2 ^ r.n) r.c b) 0 (sym d))

  -- an order with this number is noted where none waits
  pub order_noted : (m : CyclicMethod) → r.waiting ≡ 0
      → telling_order r b m ≡ record { answer = noted; receiver = awaiting r r.c (byte_of m) b }
  unfolding telling_order
  order_noted m e =
      ap (on_order r b m) right_judged ∙ go (eqb (difference (2 ^ r.n) r.c b) 0) (leb (difference (2 ^ r.n) r.c b) r.w)
    where
      free : noting r b m ≡ record { answer = noted; receiver = awaiting r r.c (byte_of m) b }
      free =
          ap (λ (t : Bool). cond t (record { answer = noted; receiver = awaiting r r.c (byte_of m) b }) (record { answer = not_noted 67; receiver = r }))
          (eq-eqb r.waiting 0 e)

      go : (t u : Bool) → on_order r b m (cond t new (cond u repeat lost)) ≡ record { answer = noted; receiver = awaiting r r.c (byte_of m) b }
      go true u = free
      go false true = free
      go false false = free
