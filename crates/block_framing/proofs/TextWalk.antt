-- The walk over plain text and over clear text, up to the end sign. Assumes nothing.
use mathlib.Core.Path.{◌≡◌, refl, sym, ap, ◌∙◌}
use Prim.Native.Nat.{ℕ, ◌+◌}
use native.Mathlib.Omega.{arith}
use mathlib.Core.Bool.{Bool, true, false, cond, not}
use mathlib.Core.List.{List, [], ◌∷◌, ◌++◌}
use lib.ListN.{length}
use Rattle.bits.specs.Differences.{cons_if}
use Rattle.block.specs.declared.EndSign.{EndSign}
use Rattle.block.specs.declared.Mark.{Mark}
use Rattle.block.specs.declared.Mark.TheVariants.{LeftOut, TextByte, End}
use Rattle.block.specs.declared.Field.{Field}
use Rattle.block.specs.declared.Field.TheVariants.{Text, Clear, ClearDle}
use Rattle.block.specs.Signs.{CodeTable, Sign, soh, stx, etx, dle, syn, etb, us, other, sign_of, is_dle}
use Rattle.block.specs.Characters.{character}
use Rattle.block.specs.Walk.{in_text, in_clear, in_clear_dle}
use Rattle.block.specs.Walk.{ended, refused, Walked, ahead, onward, walk}
use Rattle.block.specs.Marks.{is_header, is_text, sift, counted, has_inner}
use Rattle.block_framing.specs.Framings.{kept_bytes}
use Rattle.block_framing.proofs.KeptBySign.{kept_plain, kept_clear, kept-behind}

-- ---- what is left of a line from its text on

-- `body` of the text, in clear text its last DLE as `lead`, the end sign and what stands after it; `behind`: a DLE stands before.
-- A line that is a header alone has no text: there the body is empty
pub record Part (table : CodeTable) (clear seven behind : Bool) (l : List ℕ) (ks : List Mark) : Type 0 where
  pub body : List ℕ
  pub lead : List ℕ
  pub stop : ℕ
  pub rest : List ℕ
  pub split : l ≡ body ++ (lead ++ stop ∷ rest)
  pub leads : length lead ≡ cond clear 1 0
  pub size : length ks ≡ length body + (length lead + 1)
  pub headers : sift is_header ks l ≡ []
  pub texts : sift is_text ks l ≡ kept_bytes table clear seven behind body
  pub counts : counted ks l ≡ kept_bytes table clear seven behind body ++ stop ∷ []
  pub inner : has_inner ks ≡ false

pub part_end : (table : CodeTable) (seven : Bool) (b : ℕ) (rest : List ℕ) → Part table false seven false (b ∷ rest) (End ∷ [])
unfolding kept_bytes
part_end table seven b rest =
    record {
      body = [];
      lead = [];
      stop = b;
      rest = rest;
      split = refl;
      leads = refl;
      size = refl;
      headers = refl;
      texts = refl;
      counts = refl;
      inner = refl;
    }

part_clear_end : (table : CodeTable) (b c : ℕ) (rest : List ℕ) → Part table true false false (b ∷ c ∷ rest) (LeftOut ∷ End ∷ [])
unfolding kept_bytes
part_clear_end table b c rest =
    record {
      body = [];
      lead = b ∷ [];
      stop = c;
      rest = rest;
      split = refl;
      leads = refl;
      size = refl;
      headers = refl;
      texts = refl;
      counts = refl;
      inner = refl;
    }

-- one byte more in front
module _ (table : CodeTable) (clear seven behind next : Bool) (b : ℕ) (l : List ℕ) (ks : List Mark) (p : Part table clear seven next l ks) where
  part_text : ((bs : List ℕ) → kept_bytes table clear seven behind (b ∷ bs) ≡ b ∷ kept_bytes table clear seven next bs)
      → Part table clear seven behind (b ∷ l) (TextByte ∷ ks)
  part_text k =
      record {
        body = b ∷ p.body;
        lead = p.lead;
        stop = p.stop;
        rest = p.rest;
        split = ap (λ z. b ∷ z) p.split;
        leads = p.leads;
        size = omega (arith, p.size);
        headers = p.headers;
        texts = ap (λ z. b ∷ z) p.texts ∙ sym (k p.body);
        counts = ap (λ z. b ∷ z) p.counts ∙ ap (λ z. z ++ p.stop ∷ []) (sym (k p.body));
        inner = p.inner;
      }

  part_left_out : ((bs : List ℕ) → kept_bytes table clear seven behind (b ∷ bs) ≡ kept_bytes table clear seven next bs)
      → Part table clear seven behind (b ∷ l) (LeftOut ∷ ks)
  part_left_out k =
      record {
        body = b ∷ p.body;
        lead = p.lead;
        stop = p.stop;
        rest = p.rest;
        split = ap (λ z. b ∷ z) p.split;
        leads = p.leads;
        size = omega (arith, p.size);
        headers = p.headers;
        texts = p.texts ∙ sym (k p.body);
        counts = p.counts ∙ ap (λ z. z ++ p.stop ∷ []) (sym (k p.body));
        inner = p.inner;
      }

-- ---- the walk over plain text

-- a refusal is no end
pub no_end : {n v : ℕ} {f : Field} {e : EndSign} → refused n v ≡ ended f e → ⊥
no_end h = let z : ◌≡◌ {A = ℕ} 0 1 = cc in omega arith

-- a walk that stopped in field f over a part whose end sign stands in field g
pub record Closed (table : CodeTable) (clear seven : Bool) (g f : Field) (l : List ℕ) (w : Walked) : Type 0 where
  pub field : f ≡ g
  pub part : Part table clear seven false l w.marks

module _ (table : CodeTable) (seven : Bool) (b : ℕ) (rest : List ℕ) (go : Field → Walked) (at : ℕ) (f : Field) (e : EndSign)
    (ih : (go Text).stop ≡ ended f e → Closed table false seven Text f rest (go Text)) where
  text-step : (s : Sign) → sign_of table (character seven b) ≡ s → (onward go Text at (in_text s)).stop ≡ ended f e
      → Closed table false seven Text f (b ∷ rest) (onward go Text at (in_text s))
  text-step soh q h = absurd (no_end h)
  text-step stx q h = absurd (no_end h)
  text-step etx q h = record { field = cc; part = part_end table seven b rest }
  text-step dle q h = absurd (no_end h)
  text-step syn q h =
      record {
        field = (ih h).field;
        part = part_left_out table false seven false false b rest _ (ih h).part (λ bs. kept_plain table seven b bs syn q);
      }
  text-step etb q h = record { field = cc; part = part_end table seven b rest }
  text-step us q h = record { field = cc; part = part_end table seven b rest }
  text-step other q h =
      record {
        field = (ih h).field;
        part = part_text table false seven false false b rest _ (ih h).part (λ bs. kept_plain table seven b bs other q);
      }

pub text-walk : (table : CodeTable) (seven : Bool) (l : List ℕ) (at : ℕ) (f : Field) (e : EndSign) → (walk table seven l at Text).stop ≡ ended f e
    → Closed table false seven Text f l (walk table seven l at Text)
text-walk table seven [] at f e h = absurd (no_end h)
text-walk table seven (b ∷ rest) at f e h =
    text-step table seven b rest (walk table seven rest (at + 1)) at f e (text-walk table seven rest (at + 1) f e) (sign_of table (character seven b)) refl h

-- ---- the walk over clear text

-- behind the DLE b
module _ (table : CodeTable) (b c : ℕ) (rest : List ℕ) (go : Field → Walked) (at : ℕ) (f : Field) (e : EndSign) (first : sign_of table (character false b) ≡ dle)
    (ih : (go Clear).stop ≡ ended f e → Closed table true false ClearDle f rest (go Clear)) where
  paired : {ks : List Mark} → Part table true false true (c ∷ rest) ks → Part table true false false (b ∷ c ∷ rest) (LeftOut ∷ ks)
  paired {ks} p = part_left_out table true false false true b (c ∷ rest) ks p (λ bs. kept_clear table b bs dle first)

  pair_step : (s : Sign) → sign_of table (character false c) ≡ s → (onward go ClearDle at (in_clear_dle s)).stop ≡ ended f e
      → Closed table true false ClearDle f (b ∷ c ∷ rest) (ahead LeftOut (onward go ClearDle at (in_clear_dle s)))
  pair_step soh q h = absurd (no_end h)
  pair_step stx q h = absurd (no_end h)
  pair_step etx q h = record { field = cc; part = part_clear_end table b c rest }
  pair_step dle q h =
      record {
        field = (ih h).field;
        part = paired (part_text table true false true false c rest _ (ih h).part (λ bs. kept-behind table c bs dle q));
      }
  pair_step syn q h =
      record {
        field = (ih h).field;
        part = paired (part_left_out table true false true false c rest _ (ih h).part (λ bs. kept-behind table c bs syn q));
      }
  pair_step etb q h = record { field = cc; part = part_clear_end table b c rest }
  pair_step us q h = record { field = cc; part = part_clear_end table b c rest }
  pair_step other q h = absurd (no_end h)

-- `pair`: where b is a DLE
module _ (table : CodeTable) (b : ℕ) (rest : List ℕ) (go : Field → Walked) (at : ℕ) (f : Field) (e : EndSign)
    (ih : (go Clear).stop ≡ ended f e → Closed table true false ClearDle f rest (go Clear))
    (pair : sign_of table (character false b) ≡ dle → (go ClearDle).stop ≡ ended f e
    → Closed table true false ClearDle f (b ∷ rest) (ahead LeftOut (go ClearDle))) where
  plain_step : (s : Sign) → is_dle s ≡ false → sign_of table (character false b) ≡ s → (go Clear).stop ≡ ended f e
      → Closed table true false ClearDle f (b ∷ rest) (ahead TextByte (go Clear))
  plain_step s n q h =
      record {
        field = (ih h).field;
        part =
            part_text table true false false false b rest _ (ih h).part
            (λ bs. kept_clear table b bs s q ∙ ap (λ x. cons_if (not x) b (kept_bytes table true false x bs)) n);
      }

  clear_step : (s : Sign) → sign_of table (character false b) ≡ s → (onward go Clear at (in_clear s)).stop ≡ ended f e
      → Closed table true false ClearDle f (b ∷ rest) (onward go Clear at (in_clear s))
  clear_step soh q h = plain_step soh refl q h
  clear_step stx q h = plain_step stx refl q h
  clear_step etx q h = plain_step etx refl q h
  clear_step dle q h = pair q h
  clear_step syn q h = plain_step syn refl q h
  clear_step etb q h = plain_step etb refl q h
  clear_step us q h = plain_step us refl q h
  clear_step other q h = plain_step other refl q h

pub clear_walk : (table : CodeTable) (l : List ℕ) (at : ℕ) (f : Field) (e : EndSign) → (walk table false l at Clear).stop ≡ ended f e
    → Closed table true false ClearDle f l (walk table false l at Clear)
clear_walk table [] at f e h = absurd (no_end h)
clear_walk table (b ∷ []) at f e h =
    clear_step table b [] (walk table false [] (at + 1)) at f e (λ n. absurd (no_end n)) (λ q n. absurd (no_end n)) (sign_of table (character false b)) refl h
clear_walk table (b ∷ c ∷ rest) at f e h =
    clear_step table b (c ∷ rest) (walk table false (c ∷ rest) (at + 1)) at f e (clear_walk table (c ∷ rest) (at + 1) f e)
    (λ q. pair_step table b c rest (walk table false rest (at + 1 + 1)) (at + 1) f e q (clear_walk table rest (at + 1 + 1) f e)
    (sign_of table (character false c)) refl)
    (sign_of table (character false b)) refl h
