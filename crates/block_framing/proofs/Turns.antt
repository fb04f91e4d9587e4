-- The walk's loop: its invariant, a turn, and its end; runs of data, which it passes over at once. Assumes nothing.
use mathlib.Core.Path.{◌≡◌, refl, sym, ap, subst, ◌∙◌}
use Prim.Native.Nat.{ℕ, zero, suc, ◌+◌, ◌-◌, ◌≤◌, ◌<◌}
use native.Mathlib.Nat.{add-zero}
use native.Mathlib.Numerals.{add-one}
use native.Mathlib.Omega.{arith}
use mathlib.Core.Bool.{Bool, true, false, true≢false, cond, not, ◌&&◌}
use mathlib.Core.List.{List, [], ◌∷◌}
use Rattle.std.specs.Prelude.{Option, None, Some}
use Rattle.std.specs.Option.{option_or}
use lib.ListN.{length, get_or, take, drop, length-drop}
use lib.Seq.{drop-cons, get_or-drop, take-length}
use Rattle.block.specs.declared.EndSign.{EndSign}
use Rattle.block.specs.declared.Mark.{Mark}
use Rattle.block.specs.declared.Mark.TheVariants.{LeftOut, HeaderByte, TextByte, InnerStart, End}
use Rattle.block.specs.declared.Field.{Field}
use Rattle.block.specs.declared.Field.TheVariants.{Start, StartDle, Header, HeaderDle, Text, Clear, ClearDle}
use Rattle.block.specs.declared.Judged.{Judged}
use Rattle.block.specs.declared.Judged.TheVariants.{Is, Ends}
use Rattle.block.specs.Signs.{CodeTable, Sign, soh, stx, etx, dle, syn, etb, us, other, sign_of, is_syn, is_dle}
use Rattle.block.specs.Characters.{character}
use Rattle.block.specs.Walk.{onward, judge, walk}
use Rattle.block.specs.Write.{is_other}
use Rattle.block.specs.Scan.{first_failing}
use Rattle.block.specs.Limits.{line_limit}
use Rattle.block.proofs.Scans.{Reached, reached}
use Rattle.block_scan.specs.Tests.{is_plain_byte, is_clear_byte, is_data}
use Rattle.block_end.specs.Ends.{text_signs, is_fill}
use Rattle.block_framing.specs.declared.FirstInnerStart.{FirstInnerStart}
use Rattle.block_framing.specs.declared.LeftOuts.{LeftOuts}
use Rattle.block_framing.specs.declared.Segments.{Segments}
use Rattle.block_framing.specs.Framings.{start_of, framed}
use Rattle.block_framing.specs.Walks.{no_left_outs, leave, place_of, Small, segments_at, walk_answer}
use Rattle.block_framing.specs.Runs.{data_mark}

-- ---- the place of the start

fill_from : (table : CodeTable) (seven : Bool) (at : ℕ) (l : List ℕ) → first_failing (is_fill table seven) at l ≡ at + start_of table seven l
unfolding first_failing is_fill
fill_from table seven at [] = sym (add-zero at)
fill_from table seven at (b ∷ l) = go (is_syn (sign_of table (character seven b))) (fill_from table seven (at + 1) l)
  where
    go : (t : Bool) → first_failing (is_fill table seven) (at + 1) l ≡ at + 1 + start_of table seven l
        → cond t (first_failing (is_fill table seven) (at + 1) l) at ≡ at + cond t (start_of table seven l + 1) 0
    go true e = omega (arith, e)
    go false e = omega arith

pub start_is : (table : CodeTable) (seven : Bool) (line : List ℕ) {r : ℕ} → r ≡ first_failing (is_fill table seven) 0 line → r ≡ start_of table seven line
start_is table seven line e = omega (arith, e, fill_from table seven 0 line)

pub start-within : (table : CodeTable) (seven : Bool) (line : List ℕ) {r : ℕ} → r ≡ first_failing (is_fill table seven) 0 line → r ≤ length line
start-within table seven line e = omega (arith, e, (reached (is_fill table seven) 0 line).within)

-- ---- what is kept stays below the place

small_first : (o : Option FirstInnerStart) (i all : ℕ) → place_of o ≤ i → place_of (option_or o (Some (record { at = i; before = all }))) ≤ i + 1
small_first None i all h = omega arith
small_first (Some inner) i all h = omega arith

small_leave : (k : Mark) (t : LeftOuts) (i : ℕ) → Small t i → Small (leave k i t) (i + 1)
small_leave LeftOut t i s = record { inner = omega (arith, s.inner); all = omega (arith, s.all) }
small_leave HeaderByte t i s = record { inner = omega (arith, s.inner); all = omega (arith, s.all) }
small_leave TextByte t i s = record { inner = omega (arith, s.inner); all = omega (arith, s.all) }
small_leave InnerStart t i s = record { inner = small_first t.inner i t.all s.inner; all = omega (arith, s.all) }
small_leave End t i s = record { inner = omega (arith, s.inner); all = omega (arith, s.all) }

-- ---- the invariant: what is left of the walk gives the whole

pub record Walking (table : CodeTable) (seven : Bool) (line : List ℕ) (t : LeftOuts) (f : Field) (i : ℕ) : Type 0 where
  pub within : i ≤ length line
  pub size : length line ≤ line_limit
  pub small : Small t i
  pub rest : walk_answer (start_of table seven line) t i (walk table seven (drop i line) i f) ≡ walk_answer (start_of table seven line) no_left_outs 0 (walk table seven line 0 Start)

module _ {table : CodeTable} {seven : Bool} {line : List ℕ} {t : LeftOuts} {f : Field} {i : ℕ} (w : Walking table seven line t f i) where
  module _ (below : i < length line) {c : ℕ} {j : Judged} (char : c ≡ character seven (get_or line i 0)) (judged : j ≡ judge seven f (sign_of table c)) where
    -- the byte at i, then the walk from i + 1 on
    pub turned : (k : Judged) → j ≡ k
        → walk_answer (start_of table seven line) t i (onward (walk table seven (drop (i + 1) line) (i + 1)) f i k) ≡ walk_answer (start_of table seven line) no_left_outs 0 (walk table seven line 0 Start)
    turned k e =
        sym (ap (λ x. walk_answer (start_of table seven line) t i (onward (walk table seven (drop (i + 1) line) (i + 1)) f i x)) (sym (ap (λ x. judge seven f (sign_of table x)) char) ∙ sym judged ∙ e))
        ∙ ap (λ n. walk_answer (start_of table seven line) t i (onward (walk table seven (drop n line) (i + 1)) f i (judge seven f (sign_of table (character seven (get_or line i 0)))))) (add-one i)
        ∙ sym (ap (λ l. walk_answer (start_of table seven line) t i (walk table seven l i f)) (drop-cons line i 0 below)) ∙ w.rest

    pub on : {k : Mark} {g : Field} {u : LeftOuts} → j ≡ Is k g → u ≡ leave k i t → Walking table seven line u g (i + 1)
    on {k} {g} e b =
        record {
          within = omega arith;
          size = w.size;
          small = rw b (small_leave k t i w.small);
          rest = ap (λ x. walk_answer (start_of table seven line) x (i + 1) (walk table seven (drop (i + 1) line) (i + 1) g)) b ∙ turned (Is k g) e;
        }

    pub ends : {e : EndSign} {start signs : ℕ} {r : Segments} → j ≡ Ends e → start ≡ first_failing (is_fill table seven) 0 line → signs ≡ text_signs f
        → r ≡ segments_at start signs e t (i + 1) → framed r ≡ walk_answer (start_of table seven line) no_left_outs 0 (walk table seven line 0 Start)
    ends {e} {start} {signs} q a b x =
        ap framed (x ∙ ap (λ n. segments_at n signs e t (i + 1)) (start_is table seven line a) ∙ ap (λ n. segments_at (start_of table seven line) n e t (i + 1)) b)
        ∙ turned (Ends e) q

-- ---- runs of data

-- which signs are data
module _ (table : CodeTable) (seven : Bool) where
  header_data : (s : Sign) → is_other s && true ≡ true → judge seven Header s ≡ Is HeaderByte Header
  header_data soh e = absurd (true≢false (sym e))
  header_data stx e = absurd (true≢false (sym e))
  header_data etx e = absurd (true≢false (sym e))
  header_data dle e = absurd (true≢false (sym e))
  header_data syn e = absurd (true≢false (sym e))
  header_data etb e = absurd (true≢false (sym e))
  header_data us e = absurd (true≢false (sym e))
  header_data other e = refl

  text_data : (s : Sign) → is_other s && true ≡ true → judge seven Text s ≡ Is TextByte Text
  text_data soh e = absurd (true≢false (sym e))
  text_data stx e = absurd (true≢false (sym e))
  text_data etx e = absurd (true≢false (sym e))
  text_data dle e = absurd (true≢false (sym e))
  text_data syn e = absurd (true≢false (sym e))
  text_data etb e = absurd (true≢false (sym e))
  text_data us e = absurd (true≢false (sym e))
  text_data other e = refl

  clear_data : (s : Sign) → not (is_dle s) ≡ true → judge seven Clear s ≡ Is TextByte Clear
  clear_data soh e = refl
  clear_data stx e = refl
  clear_data etx e = refl
  clear_data dle e = absurd (true≢false (sym e))
  clear_data syn e = refl
  clear_data etb e = refl
  clear_data us e = refl
  clear_data other e = refl

  data_of : (f : Field) (b : ℕ) → is_data table seven f b ≡ true → judge seven f (sign_of table (character seven b)) ≡ Is (data_mark f) f
  unfolding is_plain_byte is_clear_byte
  data_of Start b e = absurd (true≢false (sym e))
  data_of StartDle b e = absurd (true≢false (sym e))
  data_of Header b e = header_data (sign_of table (character seven b)) e
  data_of HeaderDle b e = absurd (true≢false (sym e))
  data_of Text b e = text_data (sign_of table (character seven b)) e
  data_of Clear b e = clear_data (sign_of table (character seven b)) e
  data_of ClearDle b e = absurd (true≢false (sym e))

-- a byte of data leaves what is kept
leave_data : (f : Field) (i : ℕ) (t : LeftOuts) → (b : ℕ) (table : CodeTable) (seven : Bool) → is_data table seven f b ≡ true → leave (data_mark f) i t ≡ t
leave_data Start i t b table seven e = absurd (true≢false (sym e))
leave_data StartDle i t b table seven e = absurd (true≢false (sym e))
leave_data Header i t b table seven e = refl
leave_data HeaderDle i t b table seven e = absurd (true≢false (sym e))
leave_data Text i t b table seven e = refl
leave_data Clear i t b table seven e = refl
leave_data ClearDle i t b table seven e = absurd (true≢false (sym e))

-- the walk passes over a run
passes : {table : CodeTable} {seven : Bool} {line : List ℕ} (n : ℕ) {t : LeftOuts} {f : Field} {i : ℕ} → Walking table seven line t f i → i + n ≤ length line
    → ((k : ℕ) → i ≤ k → k < i + n → is_data table seven f (get_or line k 0) ≡ true) → Walking table seven line t f (i + n)
passes {table} {seven} {line} zero {t} {f} {i} w h all = rw (add-zero i) w
passes {table} {seven} {line} (suc n) {t} {f} {i} w h all =
    let here = all i (omega arith) (omega arith) in
    let step = on w (omega arith) refl refl (data_of table seven f (get_or line i 0) here) (sym (leave_data f i t (get_or line i 0) table seven here)) in
    let e : i + 1 + n ≡ i + suc n = omega arith in
    subst (λ (m : ℕ). Walking table seven line t f m) e (passes n step (omega arith) (λ k l m. all k (omega arith) (omega arith)))

-- the run that a scan of the rest of the line finds
module _ (table : CodeTable) (seven : Bool) (f : Field) (line : List ℕ) (from : ℕ) (h : from ≤ length line) {r : ℕ}
    (e : r ≡ first_failing (is_data table seven f) 0 (take (length line - from) (drop from line))) where
  scanned : Reached (is_data table seven f) 0 (drop from line) r
  scanned =
      let p : take (length line - from) (drop from line) ≡ drop from line =
      ap (λ n. take n (drop from line)) (sym (length-drop from line)) ∙ take-length (drop from line) in
      rw (e, p) (reached (is_data table seven f) 0 (drop from line))

  pub run-within : from + r ≤ length line
  run-within = omega (arith, scanned.within, length-drop from line)

  pub pass : {t : LeftOuts} → Walking table seven line t f from → Walking table seven line t f (from + r)
  pass w =
      passes r w run-within
      (λ k l m.
      let p : from + (k - from) ≡ k = omega arith in
      sym (ap (λ n. is_data table seven f (get_or line n 0)) p)
      ∙ sym (ap (is_data table seven f) (get_or-drop from line (k - from) 0)) ∙ scanned.all (k - from) (omega arith))
