-- The framing that the walk hands on finds header, text and counted bytes as the marks say. Assumes nothing.
use mathlib.Core.Path.{◌≡◌, refl, sym, ap, subst, ◌∙◌}
use Prim.Native.Nat.{ℕ, ◌+◌, ◌-◌, ◌≤◌}
use native.Mathlib.Omega.{arith}
use mathlib.Core.Bool.{Bool, true, false, cond, not}
use mathlib.Core.List.{List, [], ◌∷◌, ◌++◌, append_assoc}
use lib.Dec.{eqb}
use lib.ListN.{length, drop, get_or, length-append}
use lib.Seq.{slice, take_at, drop_at, get_or_at}
use Rattle.block.specs.declared.Shape.TheVariants as shape
use Rattle.block.specs.declared.EndSign.{EndSign}
use Rattle.block.specs.declared.Mark.{Mark}
use Rattle.block.specs.declared.Mark.TheVariants.{LeftOut, HeaderByte, TextByte, InnerStart, End}
use Rattle.block.specs.declared.Field.{Field}
use Rattle.block.specs.declared.Field.TheVariants.{Start, StartDle, Header, HeaderDle, Text, Clear, ClearDle}
use Rattle.block.specs.Signs.{CodeTable}
use Rattle.block.specs.Walk.{ended, walk}
use Rattle.block.specs.Marks.{is_header, is_text, sift, counted, has_inner, shape_of}
use Rattle.block.specs.Write.{is_clear}
use Rattle.block_framing.specs.declared.Segments.{Segments}
use Rattle.block_framing.specs.Framings.{Tally, no_tally, add_mark, tallied, start_of, segments, framing_at}
use Rattle.block_framing.specs.Framings.{kept_bytes, header_in, text_in, counted_in, Segmented}
use Rattle.block_framing.proofs.TextWalk.{Part}
use Rattle.block_framing.proofs.HeaderWalk.{not-zero, inner_kept, Kind, header_alone, header_plain, header_clear, Headed, Line, plain, clear, headed, filled, line_of_lem}

-- ---- the framing over the segments

-- the middle one of three lists
slice_at : (a b c : List ℕ) (f t : ℕ) → length a ≡ f → length a + length b ≡ t → slice f t (a ++ (b ++ c)) ≡ b
slice_at a b c f t p q =
    ap (slice f t) (sym (append_assoc a b c)) ∙ ap (drop f) (take_at (a ++ b) c t (length-append a b ∙ q)) ∙ drop_at a b f p

-- a line behind `at` SYN taken apart as a framing f says: start, header, inner start, text, the last DLE of clear text, end sign,
-- and what stands after it
record Split (table : CodeTable) (seven : Bool) (at : ℕ) (line : List ℕ) (ks : List Mark) (f : Segments) : Type 0 where
  front : List ℕ
  hs : List ℕ
  is : List ℕ
  ts : List ℕ
  lead : List ℕ
  stop : ℕ
  rest : List ℕ
  split : line ≡ front ++ (hs ++ (is ++ (ts ++ (lead ++ stop ∷ rest))))
  head : f.head ≡ at + length front
  inner : f.inner ≡ at + length front + length hs
  body : f.body ≡ at + length front + length hs + length is
  tail : f.tail ≡ at + length front + length hs + length is + length ts
  after : f.after ≡ at + length front + length hs + length is + length ts + length lead + 1
  headers : sift is_header ks line ≡ kept_bytes table false seven false hs
  texts : sift is_text ks line ≡ kept_bytes table (is_clear f.shape) seven false ts
  counts : counted ks line ≡ kept_bytes table false seven false hs ++ (is ++ (kept_bytes table (is_clear f.shape) seven false ts ++ stop ∷ []))

module _ (table : CodeTable) (seven : Bool) (line : List ℕ) (ks : List Mark) (f : Segments) (p : Split table seven 0 line ks f) where
  split_length : length line ≡ f.after + length p.rest
  split_length = ap length p.split ∙ simp length-append (omega (arith, p.after))

  split_header : slice f.head f.inner line ≡ p.hs
  split_header =
      ap (slice f.head f.inner) p.split
      ∙ slice_at p.front p.hs _ f.head f.inner (omega (arith, p.head)) (omega (arith, p.inner))

  split_inner : slice f.inner f.body line ≡ p.is
  split_inner =
      let before : List ℕ = p.front ++ p.hs in
      let split : line ≡ before ++ (p.is ++ (p.ts ++ (p.lead ++ p.stop ∷ p.rest))) = simp append_assoc p.split in
      let size : length before ≡ f.inner = simp length-append (omega (arith, p.inner)) in
      ap (slice f.inner f.body) split ∙ slice_at before p.is _ f.inner f.body size (omega (arith, p.inner, p.body))

  split_text : slice f.body f.tail line ≡ p.ts
  split_text =
      let before : List ℕ = p.front ++ (p.hs ++ p.is) in
      let split : line ≡ before ++ (p.ts ++ (p.lead ++ p.stop ∷ p.rest)) = simp append_assoc p.split in
      let size : length before ≡ f.body = simp length-append (omega (arith, p.body)) in
      ap (slice f.body f.tail) split ∙ slice_at before p.ts _ f.body f.tail size (omega (arith, p.body, p.tail))

  split_stop : get_or line (f.after - 1) 0 ≡ p.stop
  split_stop =
      let before : List ℕ = p.front ++ (p.hs ++ (p.is ++ (p.ts ++ p.lead))) in
      let split : line ≡ before ++ p.stop ∷ p.rest = simp append_assoc p.split in
      let size : length before ≡ f.after - 1 = simp length-append (omega (arith, p.after)) in
      ap (λ l. get_or l (f.after - 1) 0) split ∙ get_or_at before p.stop p.rest 0 (f.after - 1) size

  split_segmented : Segmented table seven line ks f
  unfolding header_in text_in counted_in
  split_segmented =
      record {
        ordered =
            record {
              header = omega arith;
              inner = omega arith;
              text = omega arith;
              end = omega arith;
              within = omega (arith, split_length);
            };
        headers = p.headers ∙ ap (kept_bytes table false seven false) (sym split_header);
        texts = p.texts ∙ ap (kept_bytes table (is_clear f.shape) seven false) (sym split_text);
        counts = rw (split_header, split_inner, split_text, split_stop) p.counts;
      }

-- ---- the framing of each line

plain_split : (table : CodeTable) (seven : Bool) (at b : ℕ) (l : List ℕ) (ks : List Mark) (e : EndSign) (t : Tally) → Part table false seven false l ks
    → {size : ℕ} → size ≡ at + length (LeftOut ∷ ks) → Split table seven at (b ∷ l) (LeftOut ∷ ks) (segments shape.Text e t size (at + 1) (at + 1) (at + 1) (size - 1))
unfolding kept_bytes
plain_split table seven at b l ks e t p h =
    record {
      front = b ∷ [];
      hs = [];
      is = [];
      ts = p.body;
      lead = p.lead;
      stop = p.stop;
      rest = p.rest;
      split = ap (λ z. b ∷ z) p.split;
      head = omega arith;
      inner = omega arith;
      body = omega arith;
      tail = omega arith;
      after = omega arith;
      headers = p.headers;
      texts = p.texts;
      counts = p.counts;
    }

clear_split : (table : CodeTable) (seven : Bool) (at b c : ℕ) (l : List ℕ) (ks : List Mark) (e : EndSign) (t : Tally) → Part table true seven false l ks
    → {size : ℕ} → size ≡ at + length (LeftOut ∷ LeftOut ∷ ks)
    → Split table seven at (b ∷ c ∷ l) (LeftOut ∷ LeftOut ∷ ks) (segments shape.ClearText e t size (at + 2) (at + 2) (at + 2) (size - 2))
unfolding kept_bytes
clear_split table seven at b c l ks e t p h =
    record {
      front = b ∷ c ∷ [];
      hs = [];
      is = [];
      ts = p.body;
      lead = p.lead;
      stop = p.stop;
      rest = p.rest;
      split = ap (λ z. b ∷ c ∷ z) p.split;
      head = omega arith;
      inner = omega arith;
      body = omega arith;
      tail = omega arith;
      after = omega arith;
      headers = p.headers;
      texts = p.texts;
      counts = p.counts;
    }

-- the places of a line behind `at` SYN with a header of `n` bytes, an inner start of `wide` bytes and `size` bytes up to and with
-- its end sign, SYN and all
record Placed (isClearText : Bool) (at wide n size : ℕ) (f : Segments) : Type 0 where
  head : f.head ≡ at + 1
  inner : f.inner ≡ at + 1 + n
  body : f.body ≡ at + 1 + n + wide
  tail : f.tail ≡ size - (1 + cond isClearText 1 0)
  after : f.after ≡ size
  clear : is_clear f.shape ≡ isClearText

headed_split : (table : CodeTable) (seven : Bool) (f : Field) (at b : ℕ) (l : List ℕ) (ks : List Mark) (p : Headed table seven f l ks) (g : Segments)
    → {size : ℕ} → size ≡ at + length (LeftOut ∷ ks) → Placed p.clear at p.wide (length p.head) size g → Split table seven at (b ∷ l) (LeftOut ∷ ks) g
headed_split table seven f at b l ks p g z h =
    record {
      front = b ∷ [];
      hs = p.head;
      is = p.inner;
      ts = p.part.body;
      lead = p.part.lead;
      stop = p.part.stop;
      rest = p.part.rest;
      split = ap (λ z. b ∷ z) (p.split ∙ ap (λ z. p.head ++ (p.inner ++ z)) p.part.split);
      head = omega (arith, h.head);
      inner = omega (arith, h.inner);
      body = omega (arith, h.body, p.inners);
      tail = omega (arith, h.tail, p.inners, p.size, p.part.size, p.part.leads);
      after = omega (arith, h.after, p.inners, p.size, p.part.size, p.part.leads);
      headers = p.headers;
      texts = rw h.clear (p.texts ∙ p.part.texts);
      counts = rw h.clear (p.counts ∙ ap (λ z. kept_bytes table false seven false p.head ++ (p.inner ++ z)) p.part.counts);
    }

kind_placed : (f : Field) (c : Bool) (at wide n size : ℕ) (e : EndSign) (t : Tally) → Kind f c wide
    → t.inner ≡ cond (eqb wide 0) 0 (at + 1 + n) → (wide ≡ 0 → size ≡ at + 1 + n + 1) → Placed c at wide n size (framing_at at f e t size)
unfolding framing_at
kind_placed f c at wide n size e t header_alone i a =
    let m : size ≡ at + 1 + n + 1 = a refl in
    record { head = refl; inner = omega arith; body = omega arith; tail = omega arith; after = refl; clear = refl }
kind_placed f c at wide n size e t header_plain i a =
    rw (not-zero t.inner (at + n) (omega (arith, i)))
    (record { head = refl; inner = i; body = omega arith; tail = refl; after = refl; clear = refl })
kind_placed f c at wide n size e t header_clear i a =
    rw (not-zero t.inner (at + n) (omega (arith, i)))
    (record { head = refl; inner = i; body = omega arith; tail = refl; after = refl; clear = refl })

plain_framing : (at : ℕ) (e : EndSign) (t : Tally) (n : ℕ) → t.inner ≡ 0
    → framing_at at Text e t n ≡ segments shape.Text e t n (at + 1) (at + 1) (at + 1) (n - 1)
unfolding framing_at
plain_framing at e t n h = rw h

clear_framing : (at : ℕ) (e : EndSign) (t : Tally) (n : ℕ) → t.inner ≡ 0
    → framing_at at ClearDle e t n ≡ segments shape.ClearText e t n (at + 2) (at + 2) (at + 2) (n - 2)
unfolding framing_at
clear_framing at e t n h = rw h

-- one SYN more ahead of the line
filled_split : (table : CodeTable) (seven : Bool) (at b : ℕ) (l : List ℕ) (ks : List Mark) (g : Segments) → Split table seven (at + 1) l ks g
    → Split table seven at (b ∷ l) (LeftOut ∷ ks) g
filled_split table seven at b l ks g p =
    record {
      front = b ∷ p.front;
      hs = p.hs;
      is = p.is;
      ts = p.ts;
      lead = p.lead;
      stop = p.stop;
      rest = p.rest;
      split = ap (λ z. b ∷ z) p.split;
      head = omega (arith, p.head);
      inner = omega (arith, p.inner);
      body = omega (arith, p.body);
      tail = omega (arith, p.tail);
      after = omega (arith, p.after);
      headers = p.headers;
      texts = p.texts;
      counts = p.counts;
    }

-- of a line behind `at` SYN, with n of its own, so that the start stands at `start` and `size` bytes go up to and with the end sign
line_split : (table : CodeTable) (seven : Bool) (f : Field) (n at : ℕ) (line : List ℕ) (ks : List Mark) (e : EndSign) → Line table seven f n line ks → (start size : ℕ)
    → start ≡ at + n → size ≡ at + length ks → Split table seven at line ks (framing_at start f e (tallied no_tally at ks) size)
line_split table seven f n at line ks e (plain b l ms p) start size h k =
    let t : Tally = tallied no_tally (at + 1) ms in
    let i : start ≡ at = omega (arith, h) in
    subst (Split table seven at (b ∷ l) (LeftOut ∷ ms))
    (sym (ap (λ z. framing_at z Text e t size) i ∙ plain_framing at e t size (inner_kept no_tally (at + 1) ms p.inner)))
    (plain_split table seven at b l ms e t p k)
line_split table seven f n at line ks e (clear b c l ms p) start size h k =
    let t : Tally = tallied no_tally (at + 1 + 1) ms in
    let i : start ≡ at = omega (arith, h) in
    subst (Split table seven at (b ∷ c ∷ l) (LeftOut ∷ LeftOut ∷ ms))
    (sym (ap (λ z. framing_at z ClearDle e t size) i ∙ clear_framing at e t size (inner_kept no_tally (at + 1 + 1) ms p.inner)))
    (clear_split table seven at b c l ms e t p k)
line_split table seven f n at line ks e (headed g b l ms p) start size h k =
    let t : Tally = tallied no_tally (at + 1) ms in
    let i : start ≡ at = omega (arith, h) in
    subst (Split table seven at (b ∷ l) (LeftOut ∷ ms)) (sym (ap (λ z. framing_at z g e t size) i))
    (headed_split table seven g at b l ms p (framing_at at g e t size) k
    (kind_placed g p.clear at p.wide (length p.head) size e t p.kind (p.place no_tally (at + 1) refl (omega arith))
    (λ z. omega (arith, p.size, p.alone z))))
line_split table seven f n at line ks e (filled g m b l ms p) start size h k =
    filled_split table seven at b l ms _ (line_split table seven g m (at + 1) l ms e p start size (omega (arith, h)) (omega (arith, k)))

-- a walk that ends at an end sign has a framing that finds what the marks say
pub segmented : (table : CodeTable) (seven : Bool) (line : List ℕ) (ks : List Mark) (f : Field) (e : EndSign)
    → walk table seven line 0 Start ≡ record { marks = ks; stop = ended f e }
    → Segmented table seven line ks (framing_at (start_of table seven line) f e (tallied no_tally 0 ks) (length ks))
segmented table seven line ks f e h =
    split_segmented table seven line ks _
    (line_split table seven f (start_of table seven line) 0 line ks e (line_of_lem table seven line ks f e h) (start_of table seven line) (length ks) (omega arith) (omega arith))

-- ---- the shape

-- a number that is 0 just where t holds
zero_by : (t : Bool) (n m : ℕ) (has : Bool) → n ≡ cond t 0 (1 + m) → has ≡ not t → eqb n 0 ≡ not has
zero_by true n m has p q = rw (p, q)
zero_by false n m has p q = not-zero n m p ∙ ap not (sym q)

-- the place of the inner start is 0 just where there was none
inner_zero : (table : CodeTable) (seven : Bool) (f : Field) (n at : ℕ) (line : List ℕ) (ks : List Mark) → Line table seven f n line ks
    → eqb (tallied no_tally at ks).inner 0 ≡ not (has_inner ks)
inner_zero table seven f n at line ks (plain b l ms p) = rw (inner_kept no_tally (at + 1) ms p.inner, p.inner)
inner_zero table seven f n at line ks (clear b c l ms p) = rw (inner_kept no_tally (at + 1 + 1) ms p.inner, p.inner)
inner_zero table seven f n at line ks (headed g b l ms p) =
    zero_by (eqb p.wide 0) (tallied no_tally (at + 1) ms).inner (at + length p.head) (has_inner ms)
    (p.place no_tally (at + 1) refl (omega arith) ∙ ap (cond (eqb p.wide 0) 0) (omega arith)) p.has
inner_zero table seven f n at line ks (filled g m b l ms p) = inner_zero table seven g m (at + 1) l ms p

shape_by : (start : ℕ) (f : Field) (e : EndSign) (t : Tally) (n : ℕ) (has : Bool) → eqb t.inner 0 ≡ not has
    → (framing_at start f e t n).shape ≡ shape_of has f
unfolding framing_at
shape_by start Start e t n has h = refl
shape_by start StartDle e t n has h = refl
shape_by start Header e t n has h = refl
shape_by start HeaderDle e t n has h = refl
shape_by start Clear e t n has h = refl
shape_by start Text e t n true h = rw h
shape_by start Text e t n false h = rw h
shape_by start ClearDle e t n true h = rw h
shape_by start ClearDle e t n false h = rw h

-- the framing has the shape that the marks say
pub framing_shape : (table : CodeTable) (seven : Bool) (line : List ℕ) (ks : List Mark) (f : Field) (e : EndSign)
    → walk table seven line 0 Start ≡ record { marks = ks; stop = ended f e }
    → (framing_at (start_of table seven line) f e (tallied no_tally 0 ks) (length ks)).shape ≡ shape_of (has_inner ks) f
framing_shape table seven line ks f e h =
    shape_by (start_of table seven line) f e (tallied no_tally 0 ks) (length ks) (has_inner ks)
    (inner_zero table seven f (start_of table seven line) 0 line ks (line_of_lem table seven line ks f e h))

-- ---- the tally

-- what marks add to a tally t
record Counted (t : Tally) (at : ℕ) (ks : List Mark) (line : List ℕ) : Type 0 where
  headers : (tallied t at ks).header ≡ t.header + length (sift is_header ks line)
  texts : (tallied t at ks).text ≡ t.text + length (sift is_text ks line)
  counts : (tallied t at ks).counted ≡ t.counted + length (counted ks line)

counted_step : (k : Mark) (t : Tally) (at b : ℕ) (ks : List Mark) (line : List ℕ) → Counted (add_mark k at t) (at + 1) ks line
    → Counted t at (k ∷ ks) (b ∷ line)
counted_step LeftOut t at b ks line p =
    record { headers = p.headers; texts = p.texts; counts = p.counts }
counted_step HeaderByte t at b ks line p =
    record { headers = omega (arith, p.headers); texts = p.texts; counts = omega (arith, p.counts) }
counted_step TextByte t at b ks line p =
    record { headers = p.headers; texts = omega (arith, p.texts); counts = omega (arith, p.counts) }
counted_step InnerStart t at b ks line p =
    record { headers = p.headers; texts = p.texts; counts = omega (arith, p.counts) }
counted_step End t at b ks line p =
    record { headers = p.headers; texts = p.texts; counts = omega (arith, p.counts) }

counted_from : (t : Tally) (at : ℕ) (ks : List Mark) (line : List ℕ) → length ks ≤ length line → Counted t at ks line
counted_from t at [] line h = record { headers = omega arith; texts = omega arith; counts = omega arith }
counted_from t at (k ∷ ks) [] h = absurd (omega arith)
counted_from t at (k ∷ ks) (b ∷ line) h =
    counted_step k t at b ks line (counted_from (add_mark k at t) (at + 1) ks line (omega arith))

-- the tally counts the marks
pub record Tallied (ks : List Mark) (line : List ℕ) : Type 0 where
  pub headers : (tallied no_tally 0 ks).header ≡ length (sift is_header ks line)
  pub texts : (tallied no_tally 0 ks).text ≡ length (sift is_text ks line)
  pub counts : (tallied no_tally 0 ks).counted ≡ length (counted ks line)

pub tally_counts : (ks : List Mark) (line : List ℕ) → length ks ≤ length line → Tallied ks line
tally_counts ks line h =
    let p : Counted no_tally 0 ks line = counted_from no_tally 0 ks line h in
    record { headers = omega (arith, p.headers); texts = omega (arith, p.texts); counts = omega (arith, p.counts) }
