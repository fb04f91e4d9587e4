-- The walk over a header and over a whole line, up to the end sign. Assumes nothing.
use mathlib.Core.Path.{◌≡◌, refl, sym, ap, subst, ◌∙◌}
use Prim.Native.Nat.{ℕ, ◌+◌, ◌-◌, ◌<◌}
use native.Mathlib.Nat.{add-zero}
use native.Mathlib.Omega.{arith}
use mathlib.Core.Bool.{Bool, true, false, cond, not, true≢false}
use mathlib.Core.List.{List, [], ◌∷◌, ◌++◌}
use Rattle.std.specs.Prelude.{Option, None, Some}
use Rattle.std.specs.Option.{option_or}
use lib.Dec.{eqb}
use lib.ListN.{length}
use borrow.Author.Tests.{eqb-true}
use Rattle.block.specs.declared.EndSign.{EndSign}
use Rattle.block.specs.declared.Mark.{Mark}
use Rattle.block.specs.declared.Mark.TheVariants.{LeftOut, HeaderByte, TextByte, InnerStart, End}
use Rattle.block.specs.declared.Field.{Field}
use Rattle.block.specs.declared.Field.TheVariants.{Start, StartDle, Header, HeaderDle, Text, Clear, ClearDle}
use Rattle.block.specs.Signs.{CodeTable, Sign, soh, stx, etx, dle, syn, etb, us, other, sign_of, is_syn}
use Rattle.block.specs.Characters.{character}
use Rattle.block.specs.Walk.{in_start, in_start_dle, in_header, in_header_dle}
use Rattle.block.specs.Walk.{ended, Walked, onward, walk}
use Rattle.block.specs.Marks.{is_header, is_text, sift, counted, has_inner}
use Rattle.block_framing.specs.declared.FirstInnerStart.{FirstInnerStart}
use Rattle.block_framing.specs.declared.LeftOuts.{LeftOuts}
use Rattle.block_framing.specs.Framings.{add_mark}
use Rattle.block_framing.specs.Walks.{leave, leaves}
use Rattle.block_framing.specs.Framings.{Tally, first_of, tallied, start_of, kept_bytes}
use Rattle.block_framing.proofs.KeptBySign.{kept_plain}
use Rattle.block_framing.proofs.TextWalk.{Part, part_end, no_end, Closed, text-walk, clear_walk}

-- ---- the place of the inner start

pub not-zero : (n m : ℕ) → n ≡ 1 + m → eqb n 0 ≡ false
not-zero n m h = go (eqb n 0) refl
  where
    go : (t : Bool) → eqb n 0 ≡ t → t ≡ false
    go true e = absurd (omega (arith, eqb-true n 0 e))
    go false e = refl

pub first_stays : (inner at : ℕ) → 0 < inner → first_of inner at ≡ inner
first_stays inner at h = rw (not-zero inner (inner - 1) (omega arith))

-- marks without an inner start leave the place as it is
pub inner_kept : (t : Tally) (at : ℕ) (ks : List Mark) → has_inner ks ≡ false → (tallied t at ks).inner ≡ t.inner
inner_kept t at [] h = refl
inner_kept t at (LeftOut ∷ ks) h = inner_kept (add_mark LeftOut at t) (at + 1) ks h
inner_kept t at (HeaderByte ∷ ks) h = inner_kept (add_mark HeaderByte at t) (at + 1) ks h
inner_kept t at (TextByte ∷ ks) h = inner_kept (add_mark TextByte at t) (at + 1) ks h
inner_kept t at (InnerStart ∷ ks) h = absurd (true≢false h)
inner_kept t at (End ∷ ks) h = inner_kept (add_mark End at t) (at + 1) ks h

first_kept : (t : LeftOuts) (at : ℕ) (ks : List Mark) → has_inner ks ≡ false → (leaves t at ks).inner ≡ t.inner
first_kept t at [] h = refl
first_kept t at (LeftOut ∷ ks) h = first_kept (leave LeftOut at t) (at + 1) ks h
first_kept t at (HeaderByte ∷ ks) h = first_kept (leave HeaderByte at t) (at + 1) ks h
first_kept t at (TextByte ∷ ks) h = first_kept (leave TextByte at t) (at + 1) ks h
first_kept t at (InnerStart ∷ ks) h = absurd (true≢false h)
first_kept t at (End ∷ ks) h = first_kept (leave End at t) (at + 1) ks h

-- how many bytes were left out before the first inner start, 0 where there is none
abbrev pub before_of : Option FirstInnerStart → ℕ
before_of None = 0
before_of (Some inner) = inner.before

-- an inner start notes how many bytes were left out before it, where it is the first
noted_first : (o : Option FirstInnerStart) (at all : ℕ) → o ≡ None → before_of (option_or o (Some (record { at = at; before = all }))) ≡ all
noted_first o at all z = rw z

-- and a second one right behind it nothing
noted_twice : (o : Option FirstInnerStart) (at all next : ℕ) → o ≡ None
    → before_of (option_or (option_or o (Some (record { at = at; before = all }))) (Some (record { at = next; before = all }))) ≡ all
noted_twice o at all next z = rw z

-- ---- the walk over a header

-- the field of the end sign of a line with a header, whether its text is clear, and how long its inner start is
pub data Kind : Field → Bool → ℕ → Type 0 where
  header_alone : Kind Header false 0
  header_plain : Kind Text false 1
  header_clear : Kind ClearDle true 2

-- what is left of a line from its header on: `head`, the inner start, and a part with its marks; `place`: where the inner start
-- stands; `lefts`: how many bytes were left out before it
pub record Headed (table : CodeTable) (seven : Bool) (f : Field) (l : List ℕ) (ks : List Mark) : Type 0 where
  pub clear : Bool
  pub wide : ℕ
  pub kind : Kind f clear wide
  pub head : List ℕ
  pub inner : List ℕ
  pub tail : List ℕ
  pub marks : List Mark
  pub part : Part table clear seven false tail marks
  pub split : l ≡ head ++ (inner ++ tail)
  pub inners : length inner ≡ wide
  pub alone : wide ≡ 0 → length marks ≡ 1
  pub size : length ks ≡ length head + (wide + length marks)
  pub headers : sift is_header ks l ≡ kept_bytes table false seven false head
  pub texts : sift is_text ks l ≡ sift is_text marks tail
  pub counts : counted ks l ≡ kept_bytes table false seven false head ++ (inner ++ counted marks tail)
  pub has : has_inner ks ≡ not (eqb wide 0)
  pub place : (t : Tally) (at : ℕ) → t.inner ≡ 0 → 0 < at → (tallied t at ks).inner ≡ cond (eqb wide 0) 0 (at + length head)
  pub lefts : (t : LeftOuts) (at : ℕ) → t.inner ≡ None → 0 < wide → before_of (leaves t at ks).inner + length (sift is_header ks l) ≡ t.all + length head

headed_end : (table : CodeTable) (seven : Bool) (f : Field) (b : ℕ) (rest : List ℕ) → f ≡ Header → Headed table seven f (b ∷ rest) (End ∷ [])
unfolding kept_bytes
headed_end table seven f b rest g =
    record {
      clear = false;
      wide = 0;
      kind = rw g header_alone;
      head = [];
      inner = [];
      tail = b ∷ rest;
      marks = End ∷ [];
      part = part_end table seven b rest;
      split = refl;
      inners = refl;
      alone = λ z. refl;
      size = refl;
      headers = refl;
      texts = refl;
      counts = refl;
      has = refl;
      place = λ t at z n. z;
      lefts = λ t at z w. absurd (omega arith);
    }

headed_plain : (table : CodeTable) (seven : Bool) (f : Field) (b : ℕ) (l : List ℕ) (w : Walked) → Closed table false seven Text f l w
    → Headed table seven f (b ∷ l) (InnerStart ∷ w.marks)
unfolding kept_bytes
headed_plain table seven f b l w p =
    record {
      clear = false;
      wide = 1;
      kind = rw p.field header_plain;
      head = [];
      inner = b ∷ [];
      tail = l;
      marks = w.marks;
      part = p.part;
      split = refl;
      inners = refl;
      alone = λ z. absurd (omega arith);
      size = omega arith;
      headers = p.part.headers;
      texts = refl;
      counts = refl;
      has = refl;
      place = λ t at z n. inner_kept _ (at + 1) w.marks p.part.inner ∙ ap (λ i. first_of i at) z ∙ sym (add-zero at);
      lefts =
          λ t at z v.
          let k : before_of (leaves (leave InnerStart at t) (at + 1) w.marks).inner ≡ t.all =
          ap before_of (first_kept (leave InnerStart at t) (at + 1) w.marks p.part.inner) ∙ noted_first t.inner at t.all z in
          omega (arith, k, ap length p.part.headers);
    }

headed_clear : (table : CodeTable) (f : Field) (b c : ℕ) (l : List ℕ) (w : Walked) → Closed table true false ClearDle f l w
    → Headed table false f (b ∷ c ∷ l) (InnerStart ∷ InnerStart ∷ w.marks)
unfolding kept_bytes
headed_clear table f b c l w p =
    record {
      clear = true;
      wide = 2;
      kind = rw p.field header_clear;
      head = [];
      inner = b ∷ c ∷ [];
      tail = l;
      marks = w.marks;
      part = p.part;
      split = refl;
      inners = refl;
      alone = λ z. absurd (omega arith);
      size = omega arith;
      headers = p.part.headers;
      texts = refl;
      counts = refl;
      has = refl;
      place =
          λ t at z n.
          inner_kept _ (at + 1 + 1) w.marks p.part.inner
          ∙ ap (λ i. first_of (first_of i at) (at + 1)) z
          ∙ first_stays at (at + 1) n
          ∙ sym (add-zero at);
      lefts =
          λ t at z v.
          let k : before_of (leaves (leave InnerStart (at + 1) (leave InnerStart at t)) (at + 1 + 1) w.marks).inner ≡ t.all =
          ap before_of (first_kept (leave InnerStart (at + 1) (leave InnerStart at t)) (at + 1 + 1) w.marks p.part.inner)
          ∙ noted_twice t.inner at t.all (at + 1) z in
          omega (arith, k, ap length p.part.headers);
    }

-- one byte more in front
module _ (table : CodeTable) (seven : Bool) (f : Field) (l : List ℕ) (ks : List Mark) (p : Headed table seven f l ks) where
  headed_byte : (b : ℕ) → ((bs : List ℕ) → kept_bytes table false seven false (b ∷ bs) ≡ b ∷ kept_bytes table false seven false bs)
      → Headed table seven f (b ∷ l) (HeaderByte ∷ ks)
  headed_byte b k =
      record {
        clear = p.clear;
        wide = p.wide;
        kind = p.kind;
        head = b ∷ p.head;
        inner = p.inner;
        tail = p.tail;
        marks = p.marks;
        part = p.part;
        split = ap (λ z. b ∷ z) p.split;
        inners = p.inners;
        alone = p.alone;
        size = omega (arith, p.size);
        headers = ap (λ z. b ∷ z) p.headers ∙ sym (k p.head);
        texts = p.texts;
        counts = ap (λ z. b ∷ z) p.counts ∙ ap (λ z. z ++ (p.inner ++ counted p.marks p.tail)) (sym (k p.head));
        has = p.has;
        place = λ t at z n. p.place _ (at + 1) z (omega arith) ∙ ap (cond (eqb p.wide 0) 0) (omega arith);
        lefts = λ t at z v. omega (arith, p.lefts t (at + 1) z v);
      }

  headed_left_out : (b : ℕ) → ((bs : List ℕ) → kept_bytes table false seven false (b ∷ bs) ≡ kept_bytes table false seven false bs)
      → Headed table seven f (b ∷ l) (LeftOut ∷ ks)
  headed_left_out b k =
      record {
        clear = p.clear;
        wide = p.wide;
        kind = p.kind;
        head = b ∷ p.head;
        inner = p.inner;
        tail = p.tail;
        marks = p.marks;
        part = p.part;
        split = ap (λ z. b ∷ z) p.split;
        inners = p.inners;
        alone = p.alone;
        size = omega (arith, p.size);
        headers = p.headers ∙ sym (k p.head);
        texts = p.texts;
        counts = p.counts ∙ ap (λ z. z ++ (p.inner ++ counted p.marks p.tail)) (sym (k p.head));
        has = p.has;
        place = λ t at z n. p.place t (at + 1) z (omega arith) ∙ ap (cond (eqb p.wide 0) 0) (omega arith);
        lefts = λ t at z v. omega (arith, p.lefts (leave LeftOut at t) (at + 1) z v);
      }

-- behind a DLE
module _ (table : CodeTable) (b c : ℕ) (rest : List ℕ) (at : ℕ) (f : Field) (e : EndSign) where
  header_dle_step : (s : Sign) → (onward (walk table false rest (at + 1)) HeaderDle at (in_header_dle s)).stop ≡ ended f e
      → Headed table false f (b ∷ c ∷ rest) (InnerStart ∷ (onward (walk table false rest (at + 1)) HeaderDle at (in_header_dle s)).marks)
  header_dle_step soh h = absurd (no_end h)
  header_dle_step stx h = headed_clear table f b c rest (walk table false rest (at + 1) Clear) (clear_walk table rest (at + 1) f e h)
  header_dle_step etx h = absurd (no_end h)
  header_dle_step dle h = absurd (no_end h)
  header_dle_step syn h = absurd (no_end h)
  header_dle_step etb h = absurd (no_end h)
  header_dle_step us h = absurd (no_end h)
  header_dle_step other h = absurd (no_end h)

header_dle : (table : CodeTable) (b : ℕ) (l : List ℕ) (at : ℕ) (f : Field) (e : EndSign) → (walk table false l at HeaderDle).stop ≡ ended f e
    → Headed table false f (b ∷ l) (InnerStart ∷ (walk table false l at HeaderDle).marks)
header_dle table b [] at f e h = absurd (no_end h)
header_dle table b (c ∷ rest) at f e h = header_dle_step table b c rest at f e (sign_of table (character false c)) h

header-step : (table : CodeTable) (seven : Bool) (b : ℕ) (rest : List ℕ) (at : ℕ) (f : Field) (e : EndSign)
    → ((walk table seven rest (at + 1) Header).stop ≡ ended f e → Headed table seven f rest (walk table seven rest (at + 1) Header).marks)
    → (s : Sign) → sign_of table (character seven b) ≡ s → (onward (walk table seven rest (at + 1)) Header at (in_header seven s)).stop ≡ ended f e
    → Headed table seven f (b ∷ rest) (onward (walk table seven rest (at + 1)) Header at (in_header seven s)).marks
header-step table seven b rest at f e ih soh q h = absurd (no_end h)
header-step table seven b rest at f e ih stx q h =
    headed_plain table seven f b rest (walk table seven rest (at + 1) Text) (text-walk table seven rest (at + 1) f e h)
header-step table seven b rest at f e ih etx q h = headed_end table seven f b rest (cc)
header-step table true b rest at f e ih dle q h = absurd (no_end h)
header-step table false b rest at f e ih dle q h = header_dle table b rest (at + 1) f e h
header-step table seven b rest at f e ih syn q h = headed_left_out table seven f rest _ (ih h) b (λ bs. kept_plain table seven b bs syn q)
header-step table seven b rest at f e ih etb q h = headed_end table seven f b rest (cc)
header-step table seven b rest at f e ih us q h = headed_end table seven f b rest (cc)
header-step table seven b rest at f e ih other q h = headed_byte table seven f rest _ (ih h) b (λ bs. kept_plain table seven b bs other q)

header-walk : (table : CodeTable) (seven : Bool) (l : List ℕ) (at : ℕ) (f : Field) (e : EndSign) → (walk table seven l at Header).stop ≡ ended f e
    → Headed table seven f l (walk table seven l at Header).marks
header-walk table seven [] at f e h = absurd (no_end h)
header-walk table seven (b ∷ rest) at f e h =
    header-step table seven b rest at f e (header-walk table seven rest (at + 1) f e) (sign_of table (character seven b)) refl h

-- ---- the walk over a line

-- a line walked to an end sign in field f: text or clear text behind its start, or a header behind SOH; and as many SYN ahead of it
pub data Line (table : CodeTable) (seven : Bool) : Field → ℕ → List ℕ → List Mark → Type 0 where
  plain : (b : ℕ) (l : List ℕ) (ks : List Mark) → Part table false seven false l ks → Line table seven Text 0 (b ∷ l) (LeftOut ∷ ks)
  clear : (b c : ℕ) (l : List ℕ) (ks : List Mark) → Part table true seven false l ks
      → Line table seven ClearDle 0 (b ∷ c ∷ l) (LeftOut ∷ LeftOut ∷ ks)
  headed : (f : Field) (b : ℕ) (l : List ℕ) (ks : List Mark) → Headed table seven f l ks → Line table seven f 0 (b ∷ l) (LeftOut ∷ ks)
  filled : (f : Field) (n b : ℕ) (l : List ℕ) (ks : List Mark) → Line table seven f n l ks → Line table seven f (n + 1) (b ∷ l) (LeftOut ∷ ks)

module _ (table : CodeTable) (b c : ℕ) (rest : List ℕ) (at : ℕ) (f : Field) (e : EndSign) where
  start_dle_step : (s : Sign) → (onward (walk table false rest (at + 1)) StartDle at (in_start_dle s)).stop ≡ ended f e
      → Line table false f 0 (b ∷ c ∷ rest) (LeftOut ∷ (onward (walk table false rest (at + 1)) StartDle at (in_start_dle s)).marks)
  start_dle_step soh h = absurd (no_end h)
  start_dle_step stx h =
      let w : Closed table true false ClearDle f rest (walk table false rest (at + 1) Clear) = clear_walk table rest (at + 1) f e h in
      rw w.field (clear b c rest _ w.part)
  start_dle_step etx h = absurd (no_end h)
  start_dle_step dle h = absurd (no_end h)
  start_dle_step syn h = absurd (no_end h)
  start_dle_step etb h = absurd (no_end h)
  start_dle_step us h = absurd (no_end h)
  start_dle_step other h = absurd (no_end h)

start_dle : (table : CodeTable) (b : ℕ) (l : List ℕ) (at : ℕ) (f : Field) (e : EndSign) → (walk table false l at StartDle).stop ≡ ended f e
    → Line table false f 0 (b ∷ l) (LeftOut ∷ (walk table false l at StartDle).marks)
start_dle table b [] at f e h = absurd (no_end h)
start_dle table b (c ∷ rest) at f e h = start_dle_step table b c rest at f e (sign_of table (character false c)) h

start-step : (table : CodeTable) (seven : Bool) (b : ℕ) (rest : List ℕ) (at : ℕ) (f : Field) (e : EndSign)
    → ((walk table seven rest (at + 1) Start).stop ≡ ended f e → Line table seven f (start_of table seven rest) rest (walk table seven rest (at + 1) Start).marks)
    → (s : Sign) → (onward (walk table seven rest (at + 1)) Start at (in_start seven s)).stop ≡ ended f e
    → Line table seven f (cond (is_syn s) (start_of table seven rest + 1) 0) (b ∷ rest) (onward (walk table seven rest (at + 1)) Start at (in_start seven s)).marks
start-step table seven b rest at f e ih soh h = headed f b rest _ (header-walk table seven rest (at + 1) f e h)
start-step table seven b rest at f e ih stx h =
    let w : Closed table false seven Text f rest (walk table seven rest (at + 1) Text) = text-walk table seven rest (at + 1) f e h in
    rw w.field (plain b rest _ w.part)
start-step table seven b rest at f e ih etx h = absurd (no_end h)
start-step table true b rest at f e ih dle h = absurd (no_end h)
start-step table false b rest at f e ih dle h = start_dle table b rest (at + 1) f e h
start-step table seven b rest at f e ih syn h = filled f (start_of table seven rest) b rest _ (ih h)
start-step table seven b rest at f e ih etb h = absurd (no_end h)
start-step table seven b rest at f e ih us h = absurd (no_end h)
start-step table seven b rest at f e ih other h = absurd (no_end h)

line_walk : (table : CodeTable) (seven : Bool) (l : List ℕ) (at : ℕ) (f : Field) (e : EndSign) → (walk table seven l at Start).stop ≡ ended f e
    → Line table seven f (start_of table seven l) l (walk table seven l at Start).marks
line_walk table seven [] at f e h = absurd (no_end h)
line_walk table seven (b ∷ rest) at f e h =
    start-step table seven b rest at f e (line_walk table seven rest (at + 1) f e) (sign_of table (character seven b)) h

pub line_of_lem : (table : CodeTable) (seven : Bool) (line : List ℕ) (ks : List Mark) (f : Field) (e : EndSign)
    → walk table seven line 0 Start ≡ record { marks = ks; stop = ended f e } → Line table seven f (start_of table seven line) line ks
line_of_lem table seven line ks f e h =
    subst (λ k. Line table seven f (start_of table seven line) line k) (ap (λ w. w.marks) h) (line_walk table seven line 0 f e (ap (λ w. w.stop) h))
