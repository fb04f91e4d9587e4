-- Reading, question by question: what each answer on the way leaves to the rule. Assumes nothing.
use mathlib.Core.Path.{◌≡◌, refl, sym, ap, ap₂, subst, ◌∙◌}
use Prim.Native.Nat.{ℕ, zero, suc, ◌+◌, ◌-◌, ◌≤◌, ◌<◌}
use native.Mathlib.Nat.{add-zero, zero-add}
use native.Mathlib.Omega.{arith}
use mathlib.Core.Bool.{Bool, true, false, cond}
use mathlib.Core.List.{List, [], ◌∷◌}
use lib.Dec.{eqb, leb}
use lib.ListN.{length, take, drop}
use Prim.Native.Nat.{zero, suc}
use native.Mathlib.Nat.{add-zero}
use mathlib.Core.Path.{subst}
use lib.Seq.{slice}
use borrow.Author.Tests.{le-leb, lt-leb}
use Rattle.block.specs.declared.Method.{Method}
use Rattle.block.specs.declared.ReadRefusal.{ReadRefusal}
use Rattle.block.specs.declared.Parity.{Parity}
use Rattle.block.specs.declared.Shape.{Shape}
use Rattle.block.specs.declared.EndSign.{EndSign}
use Rattle.block.specs.declared.Mark.{Mark}
use Rattle.block.specs.declared.Field.{Field}
use Rattle.block.specs.declared.Field.TheVariants.{Start, StartDle, Header, HeaderDle, Text, Clear, ClearDle}
use Rattle.block.specs.Signs.{CodeTable}
use Rattle.block.specs.Characters.{is_seven, carries, parity_right}
use Rattle.block.specs.Walk.{Stop, ended, refused, Walked, walk}
use Rattle.block.specs.Marks.{counted}
use Rattle.block.specs.Check.{check_length}
use Rattle.block.specs.Scan.{first_failing}
use Rattle.block.specs.Read.{Framed, found, unframed, ask_parities, ask_end, ask_walk}
use Rattle.block.specs.Read as rule
use Rattle.block.specs.Answers.{read_number, read_value}
use Rattle.block.specs.Limits.{counted_limit, line_limit}
use Rattle.block.proofs.Walks.{marks-within}
use Rattle.std.specs.Prelude.{Result, Ok, Err}
use Rattle.block_framing.specs.declared.Segments.{Segments}
use Rattle.block_framing.specs.Framings.{Tally, no_tally, tallied, segments, framing_at, framed, refusal, of_walk, framed_answer, start_of}
use Rattle.block_framing.specs.declared.LeftOuts.{LeftOuts}
use Rattle.block_framing.specs.Walks.{no_left_outs, leave, leaves, segments_at, stopped, answer_after, walk_answer}
use Rattle.block_framing.proofs.Lengths.{segments_framing}
use Rattle.block_end.specs.Ends.{text_signs}
use Rattle.block_framing.proofs.FramingLaws.{tally_counts}

-- ---- a part of a slice

pub part_slice : (f t : ℕ) (l : List ℕ) → f ≤ t → take (t - f) (drop f l) ≡ slice f t l
part_slice zero t l h = let e : t - 0 ≡ t = omega arith in ap (λ n. take n l) e
part_slice (suc f) zero l h = absurd (omega arith)
part_slice (suc f) (suc t) [] h = nil (suc t - suc f)
  where
    nil : (n : ℕ) → ◌≡◌ {A = List ℕ} (take n []) []
    nil zero = refl
    nil (suc n) = refl
part_slice (suc f) (suc t) (x ∷ l) h =
    let e : suc t - suc f ≡ t - f = omega arith in
    ap (λ n. take n (drop f l)) e ∙ part_slice f t l (omega arith)

-- ---- 12: the first wrong parity

pub parities_wrong : (p : Parity) (l : List ℕ) (at : ℕ) (next : Framed) → first_failing (parity_right p) at l < at + length l → ask_parities p l at next ≡ unframed 12 (first_failing (parity_right p) at l)
unfolding first_failing
parities_wrong p [] at next h = absurd (omega arith)
parities_wrong p (b ∷ l) at next h = go (parity_right p b) (λ k. parities_wrong p l (at + 1) next k) h
  where
    go : (t : Bool) → (first_failing (parity_right p) (at + 1) l < at + 1 + length l → ask_parities p l (at + 1) next ≡ unframed 12 (first_failing (parity_right p) (at + 1) l))
        → cond t (first_failing (parity_right p) (at + 1) l) at < at + suc (length l)
        → cond t (ask_parities p l (at + 1) next) (unframed 12 at) ≡ unframed 12 (cond t (first_failing (parity_right p) (at + 1) l) at)
    go true ih k = ih (omega arith)
    go false ih k = refl

pub parities_right : (p : Parity) (l : List ℕ) (at : ℕ) (next : Framed) → at + length l ≤ first_failing (parity_right p) at l → ask_parities p l at next ≡ next
unfolding first_failing
parities_right p [] at next h = refl
parities_right p (b ∷ l) at next h = go (parity_right p b) (λ k. parities_right p l (at + 1) next k) h
  where
    go : (t : Bool) → (at + 1 + length l ≤ first_failing (parity_right p) (at + 1) l → ask_parities p l (at + 1) next ≡ next)
        → at + suc (length l) ≤ cond t (first_failing (parity_right p) (at + 1) l) at → cond t (ask_parities p l (at + 1) next) (unframed 12 at) ≡ next
    go true ih k = ih (omega arith)
    go false ih k = absurd (omega arith)

-- ---- 13 to 15: what the walk hands on

module _ (start : ℕ) where
  answer-stopped : (t : LeftOuts) (at : ℕ) (ks : List Mark) (s : Stop)
      → answer_after start t at ks s ≡ stopped start (leaves t at ks) (at + length ks) s
  answer-stopped t at [] s = ap (λ n. stopped start t n s) (sym (add-zero at))
  answer-stopped t at (k ∷ ks) s =
      let e : at + 1 + length ks ≡ at + suc (length ks) = omega arith in
      answer-stopped (leave k at t) (at + 1) ks s ∙ ap (λ n. stopped start (leaves (leave k at t) (at + 1) ks) n s) e

  answer-walk : (w : Walked) {s : Stop} → w.stop ≡ s → walk_answer start no_left_outs 0 w ≡ stopped start (leaves no_left_outs 0 w.marks) (length w.marks) s
  answer-walk w {s} q =
      answer-stopped no_left_outs 0 w.marks w.stop
      ∙ ap (λ n. stopped start (leaves no_left_outs 0 w.marks) n w.stop) (zero-add (length w.marks))
      ∙ ap (stopped start (leaves no_left_outs 0 w.marks) (length w.marks)) q

  -- a walk that hands on a refusal
  pub refused_by : (table : CodeTable) (m : Method) (line : List ℕ) (w : Walked) (n v : ℕ) → walk_answer start no_left_outs 0 w ≡ refusal n v
      → framed_answer table (is_seven m) line (ask_walk m line w) ≡ refusal n v
  refused_by table m line w n v e = go w.stop refl
    where
      go : (s : Stop) → w.stop ≡ s → framed_answer table (is_seven m) line (ask_end m line w.marks w.stop) ≡ refusal n v
      go (ended f d) q =
          let c : refusal n v ≡ framed (segments_at start (text_signs f) d (leaves no_left_outs 0 w.marks) (length w.marks)) = sym e ∙ answer-walk w q in
          let z : ◌≡◌ {A = ℕ} 0 1 = cc in
          absurd (omega arith)
      go (refused k u) q = ap (λ s. framed_answer table (is_seven m) line (ask_end m line w.marks s)) q ∙ sym (answer-walk w q) ∙ e

-- a walk that hands on a framing stopped at an end sign
pub record FoundBy (start : ℕ) (w : Walked) (r : Segments) : Type 0 where
  pub field : Field
  pub end : EndSign
  pub stop : w.stop ≡ ended field end
  pub framing : r ≡ framing_at start field end (tallied no_tally 0 w.marks) (length w.marks)

found_by : (table : CodeTable) (seven : Bool) (line : List ℕ) (r : Segments) → walk_answer (start_of table seven line) no_left_outs 0 (walk table seven line 0 Start) ≡ framed r
    → FoundBy (start_of table seven line) (walk table seven line 0 Start) r
found_by table seven line r e = go (walk table seven line 0 Start).stop refl
  where
    go : (s : Stop) → (walk table seven line 0 Start).stop ≡ s → FoundBy (start_of table seven line) (walk table seven line 0 Start) r
    go (ended f d) q =
        let ks : List Mark = (walk table seven line 0 Start).marks in
        let c : framed r ≡ framed (segments_at (start_of table seven line) (text_signs f) d (leaves no_left_outs 0 ks) (length ks)) = sym e ∙ answer-walk (start_of table seven line) (walk table seven line 0 Start) q in
        let p : r ≡ segments_at (start_of table seven line) (text_signs f) d (leaves no_left_outs 0 ks) (length ks) = cc in
        record {
          field = f;
          end = d;
          stop = q;
          framing = p ∙ segments_framing table seven line ks f d (ap (λ (s : Stop). record { marks = ks; stop = s }) q);
        }
    go (refused n v) q =
        let c : framed r ≡ refusal n v = sym e ∙ answer-walk (start_of table seven line) (walk table seven line 0 Start) q in
        let z : ◌≡◌ {A = ℕ} 0 1 = cc in
        absurd (omega arith)

-- ---- what a framing carries over from the tally

pub record Carries (e : EndSign) (t : Tally) (after : ℕ) (r : Segments) : Type 0 where
  pub ends : r.end ≡ e
  pub headers : r.header ≡ t.header
  pub texts : r.text ≡ t.text
  pub counts : r.counted ≡ t.counted
  pub behind : r.after ≡ after

carries_segments : (s : Shape) (e : EndSign) (t : Tally) (after head inner body tail : ℕ) → Carries e t after (segments s e t after head inner body tail)
carries_segments s e t after head inner body tail = record { ends = refl; headers = refl; texts = refl; counts = refl; behind = refl }

carries_either : (b : Bool) {e : EndSign} {t : Tally} {after : ℕ} {x y : Segments} → Carries e t after x → Carries e t after y → Carries e t after (cond b x y)
carries_either true p q = p
carries_either false p q = q

pub framing_carries : (start : ℕ) (f : Field) (e : EndSign) (t : Tally) (after : ℕ) → Carries e t after (framing_at start f e t after)
unfolding framing_at
framing_carries start Start e t after = carries_segments _ e t after _ _ _ _
framing_carries start StartDle e t after = carries_segments _ e t after _ _ _ _
framing_carries start Header e t after = carries_segments _ e t after _ _ _ _
framing_carries start HeaderDle e t after = carries_segments _ e t after _ _ _ _
framing_carries start Clear e t after = carries_segments _ e t after _ _ _ _
framing_carries start Text e t after = carries_either (eqb t.inner 0) (carries_segments _ e t after _ _ _ _) (carries_segments _ e t after _ _ _ _)
framing_carries start ClearDle e t after = carries_either (eqb t.inner 0) (carries_segments _ e t after _ _ _ _) (carries_segments _ e t after _ _ _ _)

-- ---- 52, 53 and 17

module _ (table : CodeTable) (m : Method) (line : List ℕ) (r : Segments) (e : walk_answer (start_of table (is_seven m) line) no_left_outs 0 (walk table (is_seven m) line 0 Start) ≡ framed r) where
  abbrev w : Walked
  w = walk table (is_seven m) line 0 Start

  abbrev start : ℕ
  start = start_of table (is_seven m) line

  by : FoundBy start w r
  by = found_by table (is_seven m) line r e

  carried : Carries by.end (tallied no_tally 0 w.marks) (length w.marks) r
  carried =
      subst (λ (x : Segments). Carries by.end (tallied no_tally 0 w.marks) (length w.marks) x) (sym by.framing)
      (framing_carries start by.field by.end (tallied no_tally 0 w.marks) (length w.marks))

  count : r.counted ≡ length (counted w.marks line)
  count = carried.counts ∙ (tally_counts w.marks line (marks-within table (is_seven m) line 0 Start)).counts

  pub after_small : length line ≤ line_limit → r.after ≤ line_limit
  after_small h = omega (arith, carried.behind, marks-within table (is_seven m) line 0 Start)

  -- the answers to 52, 53 and 17
  by_count : Bool → Framed
  by_count t = rule.ask t 17 0 (found w.marks by.field by.end)

  abbrev few : Bool
  few = leb (length (counted w.marks line)) counted_limit

  by_length : Bool → Bool → Framed
  by_length enough None-more = rule.ask enough 52 (length w.marks) (rule.ask None-more 53 (length w.marks) (by_count few))

  abbrev closed : ℕ
  closed = length w.marks + check_length m

  asked : ask_walk m line w ≡ by_length (leb closed (length line)) (leb (length line) closed)
  unfolding by_length by_count
  asked = ap (ask_end m line w.marks) by.stop

  closes : r.after + check_length m ≡ closed
  closes = ap (λ n. n + check_length m) carried.behind

  pub check_short_of : length line < r.after + check_length m → framed_answer table (is_seven m) line (ask_walk m line w) ≡ refusal 52 r.after
  unfolding by_length
  check_short_of h =
      ap (framed_answer table (is_seven m) line) (asked ∙ ap (λ t. by_length t (leb (length line) closed)) (lt-leb closed (length line) (omega (arith, closes))))
      ∙ ap (refusal 52) (sym carried.behind)

  pub check_long_of : r.after + check_length m < length line → framed_answer table (is_seven m) line (ask_walk m line w) ≡ refusal 53 r.after
  unfolding by_length
  check_long_of h =
      ap (framed_answer table (is_seven m) line)
      (asked ∙ ap₂ by_length (le-leb closed (length line) (omega (arith, closes))) (lt-leb (length line) closed (omega (arith, closes))))
      ∙ ap (refusal 53) (sym carried.behind)

  module _ (h : length line ≡ r.after + check_length m) where
    right-length : ask_walk m line w ≡ by_count few
    unfolding by_length
    right-length =
        asked ∙ ap₂ by_length (le-leb closed (length line) (omega (arith, closes))) (le-leb (length line) closed (omega (arith, closes)))

    pub too_many : counted_limit < r.counted → framed_answer table (is_seven m) line (ask_walk m line w) ≡ refusal 17 0
    unfolding by_count
    too_many k = ap (framed_answer table (is_seven m) line) (right-length ∙ ap by_count (lt-leb (length (counted w.marks line)) counted_limit (omega (arith, count))))

    pub all-passed : r.counted ≤ counted_limit → framed_answer table (is_seven m) line (ask_walk m line w) ≡ framed r
    unfolding by_count
    all-passed k =
        ap (framed_answer table (is_seven m) line) (right-length ∙ ap by_count (le-leb (length (counted w.marks line)) counted_limit (omega (arith, count)))) ∙ ap framed (sym by.framing)

-- ---- the same of the code's walk

module _ (table : CodeTable) (m : Method) (line : List ℕ) {seven : Bool} {result : Result Segments ReadRefusal} (s : seven ≡ is_seven m)
    (e : of_walk result ≡ walk_answer (start_of table seven line) no_left_outs 0 (walk table seven line 0 Start)) where
  pub answer_as : {r : Segments} → result ≡ Ok r → walk_answer (start_of table (is_seven m) line) no_left_outs 0 (walk table (is_seven m) line 0 Start) ≡ framed r
  answer_as q = sym (e ∙ ap (λ t. walk_answer (start_of table t line) no_left_outs 0 (walk table t line 0 Start)) s) ∙ ap of_walk q

  pub refused_as : {r : ReadRefusal} → result ≡ Err r → of_walk result ≡ framed_answer table (is_seven m) line (ask_walk m line (walk table (is_seven m) line 0 Start))
  refused_as {r} q =
      ap of_walk q ∙ sym (refused_by (start_of table (is_seven m) line) table m line (walk table (is_seven m) line 0 Start) (read_number r) (read_value r)
      (sym (e ∙ ap (λ t. walk_answer (start_of table t line) no_left_outs 0 (walk table t line 0 Start)) s) ∙ ap of_walk q))

-- ---- 58, 11 and 12

module _ (table : CodeTable) (m : Method) (p : Parity) (line : List ℕ) where
  pub not_carried : {yes : Bool} → yes ≡ carries table m → yes ≡ false → refusal 58 0 ≡ framed_answer table (is_seven m) line (rule.framed table m p line)
  unfolding rule.framed
  not_carried a n = rw (sym a ∙ n)

  module _ {yes : Bool} (a : yes ≡ carries table m) (y : yes ≡ true) where
    carried_is : carries table m ≡ true
    carried_is = sym a ∙ y

    pub too_long : line_limit < length line → refusal 11 0 ≡ framed_answer table (is_seven m) line (rule.framed table m p line)
    unfolding rule.framed
    too_long h = rw (carried_is, lt-leb (length line) line_limit h)

    module _ (h : length line ≤ line_limit) where
      pub eight_bit : {seven : Bool} → seven ≡ is_seven m → seven ≡ false → framed_answer table (is_seven m) line (ask_walk m line (walk table (is_seven m) line 0 Start)) ≡ framed_answer table (is_seven m) line (rule.framed table m p line)
      unfolding rule.framed
      eight_bit s e = rw (carried_is, le-leb (length line) line_limit h, sym s ∙ e)

      module _ {seven : Bool} (s : seven ≡ is_seven m) (e : seven ≡ true) where
        seven_bit : rule.framed table m p line ≡ ask_parities p line 0 (ask_walk m line (walk table (is_seven m) line 0 Start))
        unfolding rule.framed
        seven_bit =
            ap (λ t. rule.ask t 58 0 (rule.ask (leb (length line) line_limit) 11 0 (cond (is_seven m) (ask_parities p line 0 (ask_walk m line (walk table (is_seven m) line 0 Start))) (ask_walk m line (walk table (is_seven m) line 0 Start))))) carried_is
            ∙ ap (λ t. rule.ask t 11 0 (cond (is_seven m) (ask_parities p line 0 (ask_walk m line (walk table (is_seven m) line 0 Start))) (ask_walk m line (walk table (is_seven m) line 0 Start)))) (le-leb (length line) line_limit h)
            ∙ ap (λ t. cond t (ask_parities p line 0 (ask_walk m line (walk table (is_seven m) line 0 Start))) (ask_walk m line (walk table (is_seven m) line 0 Start))) (sym s ∙ e)

        pub wrong_parity : {at : ℕ} → at ≡ first_failing (parity_right p) 0 line → at < length line → refusal 12 at ≡ framed_answer table (is_seven m) line (rule.framed table m p line)
        wrong_parity q k =
            ap (refusal 12) q ∙ sym (ap (framed_answer table (is_seven m) line) (seven_bit ∙ parities_wrong p line 0 _ (omega arith)))

        pub right-parity : {at : ℕ} → at ≡ first_failing (parity_right p) 0 line → length line ≤ at
            → framed_answer table (is_seven m) line (ask_walk m line (walk table (is_seven m) line 0 Start)) ≡ framed_answer table (is_seven m) line (rule.framed table m p line)
        right-parity q k = sym (ap (framed_answer table (is_seven m) line) (seven_bit ∙ parities_right p line 0 _ (omega arith)))
