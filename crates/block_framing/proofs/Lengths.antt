-- The lengths that follow from the bytes left out are those that the marks say. Assumes nothing.
use mathlib.Core.Path.{◌≡◌, refl, sym, ap, subst, ◌∙◌}
use Prim.Native.Nat.{ℕ, ◌+◌, ◌-◌, ◌≤◌, ◌<◌}
use native.Mathlib.Omega.{arith}
use mathlib.Core.Bool.{Bool, true, false, cond}
use mathlib.Core.List.{List, [], ◌∷◌}
use Rattle.std.specs.Prelude.{Option, None, Some}
use Rattle.std.specs.Option.{option_or}
use lib.Dec.{eqb}
use lib.ListN.{length, length-append}
use lib.Seq.{slice, slice_empty, length-slice}
use Rattle.block.specs.declared.Shape.{Shape}
use Rattle.block.specs.declared.Shape.TheVariants as shape
use Rattle.block.specs.declared.EndSign.{EndSign}
use Rattle.block.specs.declared.Mark.{Mark}
use Rattle.block.specs.declared.Mark.TheVariants.{LeftOut, HeaderByte, TextByte, InnerStart, End}
use Rattle.block.specs.declared.Field.{Field}
use Rattle.block.specs.declared.Field.TheVariants.{Start, StartDle, Header, HeaderDle, Text, Clear, ClearDle}
use Rattle.block.specs.Signs.{CodeTable}
use Rattle.block.specs.Walk.{ended, walk}
use Rattle.block.specs.Marks.{is_header, sift}
use Rattle.block.specs.Write.{is_clear}
use Rattle.block_end.specs.Ends.{text_signs, shape_by}
use Rattle.block.proofs.Walks.{marks-within}
use Rattle.block_framing.specs.declared.FirstInnerStart.{FirstInnerStart}
use Rattle.block_framing.specs.declared.LeftOuts.{LeftOuts}
use Rattle.block_framing.specs.declared.Segments.{Segments}
use Rattle.block_framing.specs.Framings.{Tally, no_tally, first_of, add_mark, tallied, start_of, segments, framing_at, kept_bytes, header_in, text_in, counted_in, Segmented}
use Rattle.block_framing.specs.Walks.{no_left_outs, leave, leaves, numbers, text_at, segments_at}
use Rattle.block_framing.proofs.HeaderWalk.{not-zero, first_stays, inner_kept, before_of, Kind, header_alone, header_plain, header_clear, Line, plain, clear, headed, filled, line_of_lem}
use Rattle.block_framing.proofs.FramingLaws.{segmented, Tallied, tally_counts}

-- ---- mark by mark

-- the first inner start stands at the tally's place, which is not 0, and where there is none the tally has 0
abbrev StandsAt : Option FirstInnerStart → ℕ → Type 0
StandsAt None place = place ≡ 0
StandsAt (Some inner) place = (place ≡ inner.at) × (0 < place)

inner_first : (o : Option FirstInnerStart) (at all place : ℕ) → 0 < at → StandsAt o place
    → StandsAt (option_or o (Some (record { at = at; before = all }))) (first_of place at)
inner_first None at all place h p = rw p (refl, h)
inner_first (Some inner) at all place h p = rw (first_stays place at p.1) p

inner_step : (k : Mark) (t : LeftOuts) (u : Tally) (at : ℕ) → 0 < at → StandsAt t.inner u.inner → StandsAt (leave k at t).inner (add_mark k at u).inner
inner_step LeftOut t u at h p = p
inner_step HeaderByte t u at h p = p
inner_step TextByte t u at h p = p
inner_step InnerStart t u at h p = inner_first t.inner at t.all u.inner h p
inner_step End t u at h p = p

same_inner : (ks : List Mark) (t : LeftOuts) (u : Tally) (at : ℕ) → 0 < at → StandsAt t.inner u.inner → StandsAt (leaves t at ks).inner (tallied u at ks).inner
same_inner [] t u at h p = p
same_inner (k ∷ ks) t u at h p = same_inner ks (leave k at t) (add_mark k at u) (at + 1) (omega arith) (inner_step k t u at h p)

-- the first byte of a line is never an inner start, so none stands at the place 0
inner_placed : (table : CodeTable) (seven : Bool) (f : Field) (n : ℕ) (line : List ℕ) (ks : List Mark) → Line table seven f n line ks
    → StandsAt (leaves no_left_outs 0 ks).inner (tallied no_tally 0 ks).inner
inner_placed table seven f n line ks (plain b l ms p) = same_inner ms (leave LeftOut 0 no_left_outs) no_tally 1 (omega arith) refl
inner_placed table seven f n line ks (clear b c l ms p) = same_inner (LeftOut ∷ ms) (leave LeftOut 0 no_left_outs) no_tally 1 (omega arith) refl
inner_placed table seven f n line ks (headed g b l ms p) = same_inner ms (leave LeftOut 0 no_left_outs) no_tally 1 (omega arith) refl
inner_placed table seven f n line ks (filled g m b l ms p) = same_inner ms (leave LeftOut 0 no_left_outs) no_tally 1 (omega arith) refl

all-step : (k : Mark) (t : LeftOuts) (u : Tally) (at : ℕ) → (add_mark k at u).counted + (leave k at t).all ≡ u.counted + t.all + 1
all-step LeftOut t u at = omega arith
all-step HeaderByte t u at = omega arith
all-step TextByte t u at = omega arith
all-step InnerStart t u at = omega arith
all-step End t u at = omega arith

-- every byte is counted or left out
all-counted : (ks : List Mark) (t : LeftOuts) (u : Tally) (at : ℕ)
    → (tallied u at ks).counted + (leaves t at ks).all ≡ u.counted + t.all + length ks
all-counted [] t u at = omega arith
all-counted (k ∷ ks) t u at = omega (arith, all-counted ks (leave k at t) (add_mark k at u) (at + 1), all-step k t u at)

-- ---- before the inner start every byte is header or left out

by_kind : (f : Field) (c : Bool) (wide m inner : ℕ) → Kind f c wide → inner ≡ cond (eqb wide 0) 0 m → 0 < inner → (0 < wide) × (inner ≡ m)
by_kind f c wide m inner header_alone e h = absurd (omega (arith, e))
by_kind f c wide m inner header_plain e h = (omega arith, e)
by_kind f c wide m inner header_clear e h = (omega arith, e)

before_inner : (table : CodeTable) (seven : Bool) (f : Field) (n : ℕ) (line : List ℕ) (ks : List Mark) → Line table seven f n line ks → (t : LeftOuts) (at : ℕ)
    → t.inner ≡ None → t.all ≡ at → 0 < (tallied no_tally at ks).inner
    → before_of (leaves t at ks).inner + length (sift is_header ks line) ≡ (tallied no_tally at ks).inner
before_inner table seven f n line ks (plain b l ms p) t at z a h = absurd (omega (arith, inner_kept no_tally (at + 1) ms p.inner))
before_inner table seven f n line ks (clear b c l ms p) t at z a h = absurd (omega (arith, inner_kept no_tally (at + 1 + 1) ms p.inner))
before_inner table seven f n line ks (headed g b l ms p) t at z a h =
    let k = by_kind g p.clear p.wide (at + 1 + length p.head) (tallied no_tally (at + 1) ms).inner p.kind
    (p.place no_tally (at + 1) refl (omega arith)) h in
    omega (arith, p.lefts (leave LeftOut at t) (at + 1) z k.0, k.1)
before_inner table seven f n line ks (filled g m b l ms p) t at z a h =
    before_inner table seven g m l ms p (leave LeftOut at t) (at + 1) z (omega (arith, a)) h

-- ---- the whole line

-- a framing with the same numbers
same_numbers : {s u : Shape} (e : EndSign) (t : Tally) (after head inner body tail : ℕ) {h x n : ℕ} → s ≡ u → h ≡ t.header → x ≡ t.text → n ≡ t.counted
    → segments s e (numbers h x n) after head inner body tail ≡ segments u e t after head inner body tail
same_numbers e t after head inner body tail a p q r = rw (a, p, q, r)

-- the segments of a line with a text
with_text_at : (start signs : ℕ) (e : EndSign) (t : LeftOuts) (after : ℕ) → eqb signs 0 ≡ false
    → segments_at start signs e t after ≡ text_at start signs e t.inner t.all after
unfolding segments_at
with_text_at start signs e t after p = rw p

module _ (table : CodeTable) (seven : Bool) (line : List ℕ) (ks : List Mark) (f : Field) (e : EndSign) (w : walk table seven line 0 Start ≡ record { marks = ks; stop = ended f e }) where
  abbrev T : Tally
  T = tallied no_tally 0 ks

  abbrev L : LeftOuts
  L = leaves no_left_outs 0 ks

  abbrev F : Segments
  F = framing_at (start_of table seven line) f e T (length ks)

  s : Segmented table seven line ks F
  s = segmented table seven line ks f e w

  line_of : Line table seven f (start_of table seven line) line ks
  line_of = line_of_lem table seven line ks f e w

  marks : length ks ≤ length line
  marks = subst (λ v. length v.marks ≤ length line) w (marks-within table seven line 0 Start)

  t : Tallied ks line
  t = tally_counts ks line marks

  -- header, inner start, text and end sign are counted
  parts : T.counted ≡ T.header + (F.body - F.inner + (T.text + 1))
  unfolding counted_in
  parts =
      let i : length (slice F.inner F.body line) ≡ F.body - F.inner =
      length-slice F.inner F.body line (omega (arith, s.ordered.text, s.ordered.end, s.ordered.within)) in
      t.counts ∙ ap length s.counts ∙ simp length-append (omega (arith, i, t.headers, ap length s.headers, t.texts, ap length s.texts))

  counted_is : length ks - L.all ≡ T.counted
  counted_is = omega (arith, all-counted ks no_left_outs no_tally 0)

  no_header : F.head ≡ F.inner → T.header ≡ 0
  unfolding header_in kept_bytes
  no_header q =
      t.headers ∙ ap length s.headers
      ∙ ap (λ n. length (kept_bytes table false seven false (slice n F.inner line))) q
      ∙ ap (λ l. length (kept_bytes table false seven false l)) (slice_empty F.inner line)

  no_text : F.body ≡ F.tail → T.text ≡ 0
  unfolding text_in kept_bytes
  no_text q =
      t.texts ∙ ap length s.texts
      ∙ ap (λ n. length (kept_bytes table (is_clear F.shape) seven false (slice n F.tail line))) q
      ∙ ap (λ l. length (kept_bytes table (is_clear F.shape) seven false l)) (slice_empty F.tail line)

  header_is : 0 < T.inner → T.inner - before_of L.inner ≡ T.header
  header_is h =
      omega (arith, before_inner table seven f (start_of table seven line) line ks line_of no_left_outs 0 refl refl h, t.headers)

  module _ (alone behind : Shape) where
    abbrev Alone : Segments
    Alone = segments alone e T (length ks) (start_of table seven line + text_signs f) (start_of table seven line + text_signs f) (start_of table seven line + text_signs f) (length ks - text_signs f)

    abbrev Behind : Segments
    Behind = segments behind e T (length ks) (start_of table seven line + 1) T.inner (T.inner + text_signs f) (length ks - text_signs f)

    with_text : eqb (text_signs f) 0 ≡ false → F ≡ cond (eqb T.inner 0) Alone Behind
        → shape_by (text_signs f) false ≡ alone → shape_by (text_signs f) true ≡ behind
        → segments_at (start_of table seven line) (text_signs f) e L (length ks) ≡ F
    with_text p q r v = with_text_at (start_of table seven line) (text_signs f) e L (length ks) p ∙ go L.inner refl (inner_placed table seven f (start_of table seven line) line ks line_of)
      where
        go : (o : Option FirstInnerStart) → L.inner ≡ o → StandsAt o T.inner → text_at (start_of table seven line) (text_signs f) e o L.all (length ks) ≡ F
        go None g i =
            let z : F ≡ Alone = q ∙ ap (λ n. cond (eqb n 0) Alone Behind) i in
            let h : T.header ≡ 0 = no_header (ap (λ g. g.head) z ∙ sym (ap (λ g. g.inner) z)) in
            let x : length ks - L.all - 1 ≡ T.text = omega (arith, parts, h, counted_is, ap (λ g. g.body) z, ap (λ g. g.inner) z) in
            same_numbers e T (length ks) _ _ _ _ r (sym h) x counted_is ∙ sym z
        go (Some inner) g i =
            let z : F ≡ Behind = q ∙ ap (λ b. cond b Alone Behind) (not-zero T.inner (T.inner - 1) (omega (arith, i.1))) in
            let h : inner.at - inner.before ≡ T.header = omega (arith, header_is i.1, ap before_of g, i.0) in
            let x : length ks - L.all - (inner.at - inner.before + text_signs f + 1) ≡ T.text =
            omega (arith, parts, h, counted_is, ap (λ g. g.body) z, ap (λ g. g.inner) z) in
            same_numbers e T (length ks) _ _ _ _ v h x counted_is
            ∙ ap (λ n. segments behind e T (length ks) (start_of table seven line + 1) n (n + text_signs f) (length ks - text_signs f)) (sym i.0) ∙ sym z

  without_text : text_signs f ≡ 0 → F ≡ segments shape.Header e T (length ks) (start_of table seven line + 1) (length ks - 1) (length ks - 1) (length ks - 1)
      → segments_at (start_of table seven line) (text_signs f) e L (length ks) ≡ F
  unfolding segments_at shape_by
  without_text p z =
      let x : T.text ≡ 0 = no_text (ap (λ g. g.body) z ∙ sym (ap (λ g. g.tail) z)) in
      let h : length ks - L.all - 1 ≡ T.header = omega (arith, parts, x, counted_is, ap (λ g. g.body) z, ap (λ g. g.inner) z) in
      ap (λ n. segments_at (start_of table seven line) n e L (length ks)) p
      ∙ same_numbers e T (length ks) _ _ _ _ refl h (sym x) counted_is ∙ sym z

-- the segments that the walk hands on are those of the framing
pub segments_framing : (table : CodeTable) (seven : Bool) (line : List ℕ) (ks : List Mark) (f : Field) (e : EndSign)
    → walk table seven line 0 Start ≡ record { marks = ks; stop = ended f e }
    → segments_at (start_of table seven line) (text_signs f) e (leaves no_left_outs 0 ks) (length ks)
    ≡ framing_at (start_of table seven line) f e (tallied no_tally 0 ks) (length ks)
unfolding framing_at shape_by
segments_framing table seven line ks Start e w = without_text table seven line ks Start e w refl refl
segments_framing table seven line ks StartDle e w = without_text table seven line ks StartDle e w refl refl
segments_framing table seven line ks Header e w = without_text table seven line ks Header e w refl refl
segments_framing table seven line ks HeaderDle e w = without_text table seven line ks HeaderDle e w refl refl
segments_framing table seven line ks Text e w = with_text table seven line ks Text e w shape.Text shape.HeaderText refl refl refl refl
segments_framing table seven line ks Clear e w = without_text table seven line ks Clear e w refl refl
segments_framing table seven line ks ClearDle e w = with_text table seven line ks ClearDle e w shape.ClearText shape.HeaderClearText refl refl refl refl
